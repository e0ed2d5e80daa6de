-- What begin, take and the reading of a whole text decide, line by line.
use Rattle.std.specs.Prelude.{ℕ, ◌+◌, min, cond, List, [], ◌∷◌, ◌++◌, length, Some, None, Ok, Err, Option, Result, nat_lt, slice_set}
use Rattle.refusals.specs.declared.Refusal.{Refusal}
use Rattle.refusals.specs.declared.Refusal.TheVariants.{Full}
use Rattle.refusals.specs.declared.Fault.{Fault}
use Rattle.records.specs.declared.Span as spans
use Rattle.records.specs.declared.Journey as journeys
use Rattle.text.specs.declared.kind.Kind.{Kind}
use Rattle.text.specs.declared.kind.Kind.TheVariants as kinds
use Rattle.text.specs.Fields.{kind_of}
use Rattle.text.specs.Rows.{Row}
use Rattle.entries.specs.declared.entry.Entry.{Entry}
use Rattle.entries.specs.declared.entry.Entry.TheVariants.{Span, Journey}
use Rattle.entries.specs.Form.{nth}
use Rattle.entries.specs.Entries.{first_of, heading_refusal, record_tests, entry_of}

-- how far a reading is: what its heading says, and how many spans and journeys it has entered
pub record Reading : Type 0 where
  pub period : ℕ
  pub events : ℕ
  pub spans : ℕ
  pub journeys : ℕ

-- a reading with the caller's two tables
pub record Progress : Type 0 where
  pub reading : Reading
  pub spans : List spans.Span
  pub journeys : List journeys.Journey

-- a refusal, with its field, of the line at a place
abbrev pub fault_at : ℕ × ℕ → Refusal × ℕ → Fault
fault_at place f = record { refusal = f.0; field = f.1; place = place }

-- begin: an open reading with nothing entered, or the first fault of the heading's line
abbrev pub begun_if : Row → Option (Refusal × ℕ) → Result Reading Fault
begun_if row None = Ok (record { period = nth row.bytes 0; events = nth row.bytes 1; spans = 0; journeys = 0 })
begun_if row (Some f) = Err (fault_at row.place f)

abbrev pub begun : Row → Result Reading Fault
begun row = begun_if row (heading_refusal row.bytes)

-- a table of n places holds the lesser of n and 256 spans, or 64 journeys; no field is at fault where it is full
abbrev pub full_fault : Kind → Reading → ℕ → ℕ → Option ℕ
full_fault kinds.Heading r n m = None
full_fault kinds.Span r n m = cond (nat_lt r.spans (min n 256)) None (Some 0)
full_fault kinds.Journey r n m = cond (nat_lt r.journeys (min m 64)) None (Some 0)

-- the first fault of a line that is taken, with tables of n spans and m journeys
abbrev pub take_refusal : Reading → ℕ → ℕ → List ℕ → Option (Refusal × ℕ)
take_refusal r n m line = first_of (record_tests r.period r.events line ++ (Full, full_fault (kind_of line) r n m) ∷ [])

abbrev pub fault_if : ℕ × ℕ → Option (Refusal × ℕ) → Option Fault
fault_if place None = None
fault_if place (Some f) = Some (fault_at place f)

abbrev pub take_fault : Reading → ℕ → ℕ → Row → Option Fault
take_fault r n m row = fault_if row.place (take_refusal r n m row.bytes)

-- one record more
abbrev pub counted : Reading → Option Entry → Reading
counted r None = r
counted r (Some (Span s)) = record { period = r.period; events = r.events; spans = r.spans + 1; journeys = r.journeys }
counted r (Some (Journey j)) = record { period = r.period; events = r.events; spans = r.spans; journeys = r.journeys + 1 }

-- the record stands behind those entered before it, and every other place is as it was
abbrev pub entered : Progress → Option Entry → Progress
entered p None = p
entered p (Some (Span s)) = record {
  reading = counted p.reading (Some (Span s));
  spans = slice_set p.spans p.reading.spans s;
  journeys = p.journeys;
}
entered p (Some (Journey j)) = record {
  reading = counted p.reading (Some (Journey j));
  spans = p.spans;
  journeys = slice_set p.journeys p.reading.journeys j;
}

-- take: the line's record is entered, or nothing has changed
abbrev pub unless : Option Fault → Progress → Progress → Progress
unless None after before = after
unless (Some f) after before = before

abbrev pub taken : Progress → Row → Progress
taken p row = unless (take_fault p.reading (length p.spans) (length p.journeys) row) (entered p (entry_of row)) p

abbrev pub answer_if : Option Fault → Result (Unit {0}) Fault
answer_if None = Ok tt
answer_if (Some f) = Err f

abbrev pub take_answer : Progress → Row → Result (Unit {0}) Fault
take_answer p row = answer_if (take_fault p.reading (length p.spans) (length p.journeys) row)

-- lines that are taken one after another, and the first fault among them
abbrev pub all_taken : Progress → List Row → Progress
all_taken p [] = p
all_taken p (row ∷ rest) = all_taken (taken p row) rest

abbrev pub earlier : Option Fault → Option Fault → Option Fault
earlier None later = later
earlier (Some f) later = Some f

abbrev pub first_fault : Reading → ℕ → ℕ → List Row → Option Fault
first_fault r n m [] = None
first_fault r n m (row ∷ rest) = earlier (take_fault r n m row) (first_fault (counted r (entry_of row)) n m rest)
