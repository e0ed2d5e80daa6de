-- What the reading of a whole text answers, and what the tables hold then.
use Rattle.std.specs.Prelude.{ℕ, cond, List, [], ◌∷◌, length, Some, None, Ok, Err, Option, Result, nat_le}
use Rattle.refusals.specs.declared.Refusal.TheVariants.{Turn, Short}
use Rattle.refusals.specs.declared.Fault.{Fault}
use Rattle.records.specs.declared.Span.{Span}
use Rattle.records.specs.declared.Journey.{Journey}
use Rattle.text.specs.Rows.{Row, rows}
use Rattle.reading.specs.Readings.{Reading, Progress, fault_at, begun, all_taken, first_fault}

-- a reading that has begun, over the caller's tables
abbrev pub over : List Span → List Journey → Reading → Progress
over spans journeys r = record { reading = r; spans = spans; journeys = journeys }

-- the lines after the heading: all are taken, or the first fault counts
abbrev pub read_unless : Option Fault → Progress → Result Progress Fault
read_unless None p = Ok p
read_unless (Some f) p = Err f

abbrev pub rest_read : Progress → List Row → Result Progress Fault
rest_read p rest = read_unless (first_fault p.reading (length p.spans) (length p.journeys) rest) (all_taken p rest)

abbrev pub begun_read : List Span → List Journey → List Row → Result Reading Fault → Result Progress Fault
begun_read spans journeys rest (Ok r) = rest_read (over spans journeys r) rest
begun_read spans journeys rest (Err f) = Err f

-- the heading comes first, and a text with no line has none
abbrev pub rows_read : List Span → List Journey → List Row → Result Progress Fault
rows_read spans journeys [] = Err (fault_at (0, 0) (Turn, 0))
rows_read spans journeys (row ∷ rest) = begun_read spans journeys rest (begun row)

-- a text of more than 60,000 bytes is refused before its lines are looked at
abbrev pub text_read : List Span → List Journey → List ℕ → Result Progress Fault
text_read spans journeys text = cond (nat_le (length text) 60000) (rows_read spans journeys (rows text)) (Err (fault_at (0, 0) (Short, 0)))

-- the answer: the closed reading, or the fault
abbrev pub read_answer : Result Progress Fault → Result Reading Fault
read_answer (Ok p) = Ok p.reading
read_answer (Err f) = Err f

-- the tables: with the records, or as they were
abbrev pub spans_then : List Span → Result Progress Fault → List Span
spans_then before (Ok p) = p.spans
spans_then before (Err f) = before

abbrev pub journeys_then : List Journey → Result Progress Fault → List Journey
journeys_then before (Ok p) = p.journeys
journeys_then before (Err f) = before
