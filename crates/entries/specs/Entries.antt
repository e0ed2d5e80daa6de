-- The record that a line enters in a table, and the first refusal that a line gets.
use Rattle.std.specs.Prelude.{ℕ, ◌-◌, List, [], ◌∷◌, length, Some, None, Option}
use Rattle.refusals.specs.declared.Refusal.{Refusal}
use Rattle.refusals.specs.declared.Refusal.TheVariants.{Form, Turn, Range, Event}
use Rattle.records.specs.declared.Span as spans
use Rattle.records.specs.declared.Journey as journeys
use Rattle.text.specs.declared.kind.Kind.{Kind}
use Rattle.text.specs.declared.kind.Kind.TheVariants.{Heading, Span, Journey}
use Rattle.text.specs.Fields.{kind_of}
use Rattle.text.specs.Rows.{Row}
use Rattle.entries.specs.declared.entry.Entry.{Entry}
use Rattle.entries.specs.declared.entry.Entry.TheVariants as entry
use Rattle.entries.specs.Form.{form_fault, values, nth}
use Rattle.entries.specs.Tests.{heading_range, range_fault, event_fault}

-- the record of a span line, with its place
abbrev pub span_of : Row → spans.Span
span_of row = record {
  index = nth row.bytes 0;
  from = nth row.bytes 1;
  to = nth row.bytes 2;
  lower = nth row.bytes 3;
  upper = nth row.bytes 4;
  weight = nth row.bytes 5;
  place = row.place;
}

-- the record of a journey line, with its place: `count` events, and 0 at the places of the chain beyond them
abbrev pub journey_of : Row → journeys.Journey
journey_of row = record {
  index = nth row.bytes 0;
  cap = nth row.bytes 1;
  count = length (values row.bytes) - 2;
  chain = nth row.bytes 2 ∷ nth row.bytes 3 ∷ nth row.bytes 4 ∷ nth row.bytes 5 ∷ nth row.bytes 6 ∷ nth row.bytes 7 ∷ [];
  place = row.place;
}

-- what a line enters; a heading enters nothing
abbrev pub entry_by : Kind → Row → Option Entry
entry_by Heading row = None
entry_by Span row = Some (entry.Span (span_of row))
entry_by Journey row = Some (entry.Journey (journey_of row))

abbrev pub entry_of : Row → Option Entry
entry_of row = entry_by (kind_of row.bytes) row

-- a test comes before what later tests say
abbrev pub before : Refusal → Option ℕ → Option (Refusal × ℕ) → Option (Refusal × ℕ)
before refusal None later = later
before refusal (Some field) later = Some (refusal, field)

-- of tests in their order, the first that applies, with the field at fault
abbrev pub first_of : List (Refusal × Option ℕ) → Option (Refusal × ℕ)
first_of [] = None
first_of (t ∷ ts) = before t.0 t.1 (first_of ts)

-- a heading is out of turn where a record is due, and a record where the heading is; no field is at fault
abbrev pub heading_out_of_turn : Kind → Option ℕ
heading_out_of_turn Heading = Some 0
heading_out_of_turn Span = None
heading_out_of_turn Journey = None

abbrev pub record_out_of_turn : Kind → Option ℕ
record_out_of_turn Heading = None
record_out_of_turn Span = Some 0
record_out_of_turn Journey = Some 0

-- where the heading is due
abbrev pub heading_refusal : List ℕ → Option (Refusal × ℕ)
heading_refusal line =
    first_of ((Form, form_fault line) ∷ (Turn, record_out_of_turn (kind_of line)) ∷ (Range, heading_range (nth line 0) (nth line 1)) ∷ [])

-- where a record is due, at period T and E events: the tests of the line itself
abbrev pub record_tests : ℕ → ℕ → List ℕ → List (Refusal × Option ℕ)
record_tests T E line =
    (Form, form_fault line) ∷ (Turn, heading_out_of_turn (kind_of line)) ∷ (Range, range_fault (kind_of line) T line)
    ∷ (Event, event_fault (kind_of line) E line) ∷ []

abbrev pub record_refusal : ℕ → ℕ → List ℕ → Option (Refusal × ℕ)
record_refusal T E line = first_of (record_tests T E line)
