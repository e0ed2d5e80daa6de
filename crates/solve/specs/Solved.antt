-- From a text to an answer: what is searched, and what is then written.
use Rattle.std.specs.Prelude.{◌≡◌, ℕ, cond, ◌&&◌, List, [], length, replicate, Ok, Err, Option, Result, nat_le}
use Rattle.refusals.specs.declared.Refusal.{Refusal}
use Rattle.refusals.specs.declared.Refusal.TheVariants.{Short}
use Rattle.refusals.specs.declared.Fault.{Fault}
use Rattle.records.specs.declared.Span.{Span}
use Rattle.records.specs.declared.Journey.{Journey}
use Rattle.calls.specs.Calls.{family, find_refusal, unless_refused}
use Rattle.settle.specs.Workspace.{cleared}
use Rattle.reading.specs.Readings.{Reading, Progress, fault_at}
use Rattle.reading.specs.Calls.{text_read}
use Rattle.table_banks.specs.Verdicts.{spans_verdict, journeys_verdict}
use Rattle.instance.specs.Joined.{instance_meaning}
use Rattle.search.specs.declared.Answer.{Answer}
use Rattle.search.specs.Search.{Problem}
use Rattle.search.specs.Theorems.{problem}
use Rattle.find.specs.Outcome.{Replied}
use Rattle.solve.specs.declared.Solution.{Solution}

-- the problem of an instance: its spans followed by its journeys, with everything allowed
abbrev pub instance_problem : Reading → List Span → List Journey → Problem
instance_problem r spans journeys = problem (instance_meaning r spans journeys) (family r.period r.events [])

-- the search begins at minute 0 of every event, and its budget is 1,000,000 dead ends
abbrev pub zeros : List ℕ
zeros = replicate 256 0

abbrev pub refused_find : Reading → List Span → List Journey → ℕ → ℕ → Option Refusal
refused_find r spans journeys buffer workspace =
    find_refusal r.period r.events (instance_meaning r spans journeys) zeros buffer workspace

-- what a search of an instance replies, where the tables are not refused
pub record Searched (r : Reading) (spans : List Span) (journeys : List Journey) (old new w w' : List ℕ) (answer : Result Answer Refusal) : Type 0 where
  pub reply : Replied (refused_find r spans journeys (length old) (length w)) (instance_problem r spans journeys) zeros 1000000 old new answer
  pub workspace : w' ≡ unless_refused (refused_find r spans journeys (length old) (length w)) (cleared w) w

-- nothing was searched
pub record Unsearched (f : Refusal) (old new w w' : List ℕ) (answer : Result Answer Refusal) : Type 0 where
  pub reply : answer ≡ Err f
  pub buffer : new ≡ old
  pub workspace : w' ≡ w

abbrev pub SearchedIf : Result (Unit {0}) Refusal → Type 0 → (Refusal → Type 0) → Type 0
SearchedIf (Ok u) P Q = P
SearchedIf (Err f) P Q = Q f

-- the tables are tested again, the spans' first
abbrev pub SearchOf : Reading → List Span → List Journey → (old new w w' : List ℕ) → Result Answer Refusal → Type 0
SearchOf r spans journeys old new w w' answer =
    SearchedIf (spans_verdict r.period r.events r.spans spans)
    (SearchedIf (journeys_verdict r.events r.journeys journeys) (Searched r spans journeys old new w w' answer)
    (λ f. Unsearched f old new w w' answer))
    (λ f. Unsearched f old new w w' answer)

-- an answer or a refusal of the search, as the solution of a text of E events or a fault of no line
abbrev pub told : ℕ → Result Answer Refusal → Result Solution Fault
told E (Ok a) = Ok (record { events = E; answer = a })
told E (Err f) = Err (fault_at (0, 0) (f, 0))

-- the text was read: its records are in the tables, and they were searched
pub record Solved (p : Progress) (spans' : List Span) (journeys' : List Journey) (old new w w' : List ℕ) (r : Result Solution Fault) : Type 0 where
  pub spans_held : spans' ≡ p.spans
  pub journeys_held : journeys' ≡ p.journeys
  pub answer : Result Answer Refusal
  pub search : SearchOf p.reading p.spans p.journeys old new w w' answer
  pub tells : r ≡ told p.reading.events answer

-- it was not, and all is as before
pub record Untouched (f : Fault) (spans spans' : List Span) (journeys journeys' : List Journey) (old new w w' : List ℕ) (r : Result Solution Fault) : Type 0 where
  pub tells : r ≡ Err f
  pub spans_kept : spans' ≡ spans
  pub journeys_kept : journeys' ≡ journeys
  pub buffer : new ≡ old
  pub workspace : w' ≡ w

-- a buffer of fewer than 256 places or a workspace of fewer than 4,096 numbers is refused before the text is read
abbrev pub start : List Span → List Journey → List ℕ → ℕ → ℕ → Result Progress Fault
start spans journeys text buffer workspace =
    cond (nat_le 256 buffer && nat_le 4096 workspace) (text_read spans journeys text) (Err (fault_at (0, 0) (Short, 0)))

abbrev pub SolvedIf : Result Progress Fault → (spans spans' : List Span) (journeys journeys' : List Journey) (old new w w' : List ℕ) → Result Solution Fault → Type 0
SolvedIf (Ok p) spans spans' journeys journeys' old new w w' r = Solved p spans' journeys' old new w w' r
SolvedIf (Err f) spans spans' journeys journeys' old new w w' r = Untouched f spans spans' journeys journeys' old new w w' r
