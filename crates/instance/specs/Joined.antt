-- The relations of an instance: its spans, and behind them its journeys.
use Rattle.std.specs.Prelude.{◌≡◌, ℕ, List, [], length, take, Ok, Err, Option, Result}
use Rattle.refusals.specs.declared.Refusal.{Refusal}
use Rattle.records.specs.declared.Span.{Span}
use Rattle.records.specs.declared.Journey.{Journey}
use Rattle.relations.specs.Meaning.{Meaning}
use Rattle.relations.specs.Joins.{joined}
use Rattle.relations.specs.Tables.{highest}
use Rattle.spans.specs.Spans.{span_events, span_relations}
use Rattle.journeys.specs.Journeys.{journey_events, journey_relations}
use Rattle.bank.specs.Calls.{meant}
use Rattle.checks.specs.Checked.{checked}
use Rattle.rest.specs.Rest.{Left}
use Rattle.calls.specs.Calls.{family, left_refusal, unless_refused as unless}
use Rattle.calls.specs.Replies.{Replies}
use Rattle.settle.specs.Workspace.{cleared}
use Rattle.reading.specs.Readings.{Reading}
use Rattle.table_banks.specs.Verdicts.{spans_verdict, journeys_verdict}

-- what a table of spans means at period T, and what one of journeys does
abbrev pub spans_meaning : ℕ → List Span → Meaning
spans_meaning T ss = meant T (highest span_events ss) (span_relations T ss)

abbrev pub journeys_meaning : ℕ → List Journey → Meaning
journeys_meaning T js = meant T (highest journey_events js) (journey_relations T js)

-- the records that a reading has entered, joined
abbrev pub instance_meaning : Reading → List Span → List Journey → Meaning
instance_meaning r spans journeys =
    joined (spans_meaning r.period (take r.spans spans)) (journeys_meaning r.period (take r.journeys journeys))

-- an answer that is given unless the tables are refused, first that of the spans
abbrev pub unless_refused : {A : Type 0} → Result (Unit {0}) Refusal → Result A Refusal → Result A Refusal
unless_refused (Ok u) answer = answer
unless_refused (Err f) answer = Err f

abbrev pub if_tables_good : {A : Type 0} → Reading → List Span → List Journey → Result A Refusal → Result A Refusal
if_tables_good r spans journeys answer =
    unless_refused (spans_verdict r.period r.events r.spans spans)
    (unless_refused (journeys_verdict r.events r.journeys journeys) answer)

-- the tables are refused, first that of the spans, or there is a bank with the meaning of the instance
abbrev pub Banked : {A : Type 0} → (A → Meaning) → Reading → List Span → List Journey → Result A Refusal → Type 0
Banked meaning r spans journeys (Ok b) =
    (spans_verdict r.period r.events r.spans spans ≡ Ok tt) × (journeys_verdict r.events r.journeys journeys ≡ Ok tt)
    × (meaning b ≡ instance_meaning r spans journeys)
Banked meaning r spans journeys (Err f) = ◌≡◌ {A = Result (Unit {0}) Refusal} (if_tables_good r spans journeys (Ok tt)) (Err f)

-- which relation, if any, a timetable does not meet
abbrev pub timetable_checked : Reading → List Span → List Journey → List ℕ → Result (Option ℕ) Refusal
timetable_checked r spans journeys x = if_tables_good r spans journeys (checked (instance_meaning r spans journeys) x)

-- the minutes of an event that are left under the relations of the instance, with everything allowed; the workspace w, now w',
-- is cleared, or as it was where there is a refusal
pub record EventLeft (r : Reading) (spans : List Span) (journeys : List Journey) (event : ℕ) (w w' : List ℕ) (answer : Result ℕ Refusal) : Type 0 where
  pub reply : Replies (left_refusal r.period r.events (instance_meaning r spans journeys) event (length w))
      (Left (instance_meaning r spans journeys) (family r.period r.events []) event) answer
  pub workspace : w' ≡ unless (left_refusal r.period r.events (instance_meaning r spans journeys) event (length w)) (cleared w) w

-- the same unless the tables are refused
abbrev pub LeftUnless : Result (Unit {0}) Refusal → Type 0 → (w w' : List ℕ) → Result ℕ Refusal → Type 0
LeftUnless (Ok u) P w w' answer = P
LeftUnless (Err f) P w w' answer = (answer ≡ Err f) × (w' ≡ w)

abbrev pub MinutesLeft : Reading → List Span → List Journey → ℕ → (w w' : List ℕ) → Result ℕ Refusal → Type 0
MinutesLeft r spans journeys event w w' answer =
    LeftUnless (spans_verdict r.period r.events r.spans spans)
    (LeftUnless (journeys_verdict r.events r.journeys journeys) (EventLeft r spans journeys event w w' answer) w w' answer) w w' answer
