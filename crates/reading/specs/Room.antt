-- What the code learns of a line before it enters its record.
use Rattle.std.specs.Prelude.{◌≡◌, ℕ, min, Bool, true, Some, None, Ok, Err, Result, nat_lt}
use Rattle.refusals.specs.declared.Fault.{Fault}
use Rattle.text.specs.Rows.{Row}
use Rattle.entries.specs.declared.entry.Entry.{Entry}
use Rattle.entries.specs.declared.entry.Entry.TheVariants.{Span, Journey}
use Rattle.entries.specs.Entries.{entry_of, record_refusal}
use Rattle.reading.specs.Readings.{Reading, fault_if, take_fault}

-- the table for the entry has a further place
abbrev pub room : Reading → ℕ → ℕ → Entry → Bool
room r n m (Span s) = nat_lt r.spans (min n 256)
room r n m (Journey j) = nat_lt r.journeys (min m 64)

-- the entry of a line that passes its own tests, or the line's fault
abbrev pub LineJudged : Reading → Row → Result Entry Fault → Type 0
LineJudged r row (Ok e) = (record_refusal r.period r.events row.bytes ≡ None) × (entry_of row ≡ Some e)
LineJudged r row (Err f) = fault_if row.place (record_refusal r.period r.events row.bytes) ≡ Some f

-- the entry of a line that has no fault, for which there is a place, or the line's fault
abbrev pub Tested : Reading → ℕ → ℕ → Row → Result Entry Fault → Type 0
Tested r n m row (Ok e) = (take_fault r n m row ≡ None) × (entry_of row ≡ Some e) × (room r n m e ≡ true)
Tested r n m row (Err f) = take_fault r n m row ≡ Some f
