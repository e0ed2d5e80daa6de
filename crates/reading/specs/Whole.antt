-- What a text that is read whole leaves, said of its lines and not of the steps by which they are taken.
use Rattle.std.specs.Prelude.{◌≡◌, ℕ, ◌≤◌, min, List, [], ◌∷◌, ◌++◌, length, drop, Some, None, Ok, Err, Option, Result}
use Rattle.refusals.specs.declared.Fault.{Fault}
use Rattle.records.specs.declared.Span as spans
use Rattle.records.specs.declared.Journey as journeys
use Rattle.text.specs.Rows.{Row, rows}
use Rattle.entries.specs.declared.entry.Entry.{Entry}
use Rattle.entries.specs.declared.entry.Entry.TheVariants.{Span, Journey}
use Rattle.entries.specs.Form.{nth}
use Rattle.entries.specs.Entries.{entry_of}
use Rattle.reading.specs.Readings.{Progress}

-- the spans among what lines enter, in the order of the lines
abbrev pub with_span : Option Entry → List spans.Span → List spans.Span
with_span None later = later
with_span (Some (Span s)) later = s ∷ later
with_span (Some (Journey j)) later = later

abbrev pub spans_in : List Row → List spans.Span
spans_in [] = []
spans_in (row ∷ rest) = with_span (entry_of row) (spans_in rest)

-- and the journeys
abbrev pub with_journey : Option Entry → List journeys.Journey → List journeys.Journey
with_journey None later = later
with_journey (Some (Span s)) later = later
with_journey (Some (Journey j)) later = j ∷ later

abbrev pub journeys_in : List Row → List journeys.Journey
journeys_in [] = []
journeys_in (row ∷ rest) = with_journey (entry_of row) (journeys_in rest)

-- the first line is the heading; the tables begin with the records of the spans and of the journeys after it, in the
-- order of their lines, and go on as they were; the reading has what the heading says and how many records there are
pub record Whole (text : List ℕ) (spans : List spans.Span) (journeys : List journeys.Journey) (p : Progress) : Type 0 where
  pub heading : Row
  pub rest : List Row
  pub lines : rows text ≡ heading ∷ rest
  pub spans_held : p.spans ≡ spans_in rest ++ drop (length (spans_in rest)) spans
  pub journeys_held : p.journeys ≡ journeys_in rest ++ drop (length (journeys_in rest)) journeys
  pub spans_few : length (spans_in rest) ≤ min (length spans) 256
  pub journeys_few : length (journeys_in rest) ≤ min (length journeys) 64
  pub counted : p.reading ≡ record {
    period = nth heading.bytes 0;
    events = nth heading.bytes 1;
    spans = length (spans_in rest);
    journeys = length (journeys_in rest);
  }

-- an answer that is no fault leaves that
abbrev pub WholeIfRead : List ℕ → List spans.Span → List journeys.Journey → Result Progress Fault → Type 0
WholeIfRead text spans journeys (Ok p) = Whole text spans journeys p
WholeIfRead text spans journeys (Err f) = Unit {0}
