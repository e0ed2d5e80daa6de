-- What a find answers and writes.
use Rattle.std.specs.Prelude.{◌≡◌, ℕ, List, ◌++◌, length, drop, Some, Option, Result}
use Rattle.refusals.specs.declared.Refusal.{Refusal}
use Rattle.calls.specs.Replies.{Replies}
use Rattle.search.specs.declared.Answer.{Answer}
use Rattle.search.specs.Search.{Problem, events, Way, Finds}
use Rattle.search.specs.InWords.{EarliestOrNone, TheNumber}

-- of an accepted find that answers `answer`, and whose buffer was old and is new: what it wrote stands at the buffer's begin,
-- with nothing changed behind it nor beyond the events; and answer and list are what the problem has from this floor on with
-- this budget, whichever way it narrows. There is a way.
pub record Outcome (q : Problem) (floor : List ℕ) (budget : ℕ) (old new : List ℕ) (answer : Answer) : Type 0 where
  pub written : List ℕ
  pub buffer : new ≡ written ++ drop (length written) old
  pub beyond : drop (events q) new ≡ drop (events q) old
  pub way : Way q
  pub finds : (w : Way q) → Finds q w floor budget answer written
  pub earliest : EarliestOrNone q floor answer written
  pub number : (w : Way q) → TheNumber q w floor budget answer written

-- the reply of a find: its refusal if there is one, and then the buffer is as it was; or else its outcome
pub record Replied (refusal : Option Refusal) (q : Problem) (floor : List ℕ) (budget : ℕ) (old new : List ℕ) (r : Result Answer Refusal) : Type 0 where
  pub reply : Replies refusal (Outcome q floor budget old new) r
  pub kept : (e : Refusal) → refusal ≡ Some e → new ≡ old
