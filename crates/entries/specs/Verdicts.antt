-- What the tests of a line answer: what the line says, or the first refusal that applies, with the field at fault.
use Rattle.std.specs.Prelude.{◌≡◌, ℕ, List, Some, None, Ok, Err, Result}
use Rattle.refusals.specs.declared.Misfit.{Misfit}
use Rattle.text.specs.Rows.{Row}
use Rattle.entries.specs.declared.entry.Entry.{Entry}
use Rattle.entries.specs.declared.heading.Heading.{Heading}
use Rattle.entries.specs.Form.{nth}
use Rattle.entries.specs.Entries.{entry_of, heading_refusal, record_refusal}

-- where the heading is due
abbrev pub Headed : List ℕ → Result Heading Misfit → Type 0
Headed line (Ok h) = (heading_refusal line ≡ None) × (h.period ≡ nth line 0) × (h.events ≡ nth line 1)
Headed line (Err m) = heading_refusal line ≡ Some (m.refusal, m.field)

-- where a record is due, at period T and E events; a full table is tested elsewhere
abbrev pub Judged : ℕ → ℕ → Row → Result Entry Misfit → Type 0
Judged T E row (Ok e) = (record_refusal T E row.bytes ≡ None) × (entry_of row ≡ Some e)
Judged T E row (Err m) = record_refusal T E row.bytes ≡ Some (m.refusal, m.field)
