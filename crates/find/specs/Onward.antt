-- What `find` promises of the calls that a plan has had.
use Rattle.std.specs.Prelude.{ℕ, List, [], ◌∷◌, ◌++◌, length, Result}
use Rattle.refusals.specs.declared.Refusal.{Refusal}
use Rattle.relations.specs.Meaning.{Meaning}
use Rattle.calls.specs.Calls.{Call, find, family, refusal, ledger}
use Rattle.plan.specs.declared.contents.Contents.{Contents}
use Rattle.plan.specs.Decided.{Decided}
use Rattle.search.specs.declared.Answer.{Answer}
use Rattle.search.specs.Theorems.{problem}
use Rattle.find.specs.Outcome.{Replied}

-- the contents p come from the calls cs followed by this find, and its reply r, with its buffer from old to new, is what those
-- calls say of it: its problem is the bank's meaning with the family that they allow
pub record Onward (p : Contents) (m : Meaning) (floor : List ℕ) (budget : ℕ) (old new : List ℕ) (workspace : ℕ) (r : Result Answer Refusal) (cs : List Call) : Type 0 where
  pub plan : Decided p (cs ++ find m floor budget (length old) workspace ∷ [])
  pub answer : Replied (refusal p.period p.events (ledger p.period p.events cs) (find m floor budget (length old) workspace))
      (problem m (family p.period p.events (ledger p.period p.events cs))) floor budget old new r

-- so whatever calls the plan has had
abbrev pub GoesOn : Contents → Meaning → List ℕ → ℕ → List ℕ → List ℕ → ℕ → Result Answer Refusal → Type 0
GoesOn p m floor budget old new workspace r = (cs : List Call) → Decided p cs → Onward p m floor budget old new workspace r cs
