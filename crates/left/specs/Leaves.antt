-- What `left` promises.
use Rattle.std.specs.Prelude.{◌≡◌, ℕ, List, [], ◌∷◌, ◌++◌, length, Result}
use Rattle.refusals.specs.declared.Refusal.{Refusal}
use Rattle.relations.specs.Meaning.{Meaning}
use Rattle.rest.specs.Rest.{Left}
use Rattle.calls.specs.Calls.{Call, left, family, left_refusal, refusal, unless_refused, ledger}
use Rattle.calls.specs.Replies.{Replies}
use Rattle.settle.specs.Workspace.{cleared}
use Rattle.plan.specs.declared.contents.Contents.{Contents}
use Rattle.plan.specs.Contents.{sets_of}
use Rattle.plan.specs.Decided.{Decided}

-- the contents p come from the calls cs followed by this left, and its reply r is what those calls say of it
pub record Onward (p : Contents) (m : Meaning) (e workspace : ℕ) (r : Result ℕ Refusal) (cs : List Call) : Type 0 where
  pub plan : Decided p (cs ++ left m e workspace ∷ [])
  pub answer : Replies (refusal p.period p.events (ledger p.period p.events cs) (left m e workspace))
      (Left m (family p.period p.events (ledger p.period p.events cs)) e) r

-- of a plan with the contents p and a bank of meaning m, with the workspace w that became w' and the reply r:
pub record Leaves (p : Contents) (m : Meaning) (e : ℕ) (w w' : List ℕ) (r : Result ℕ Refusal) : Type 0 where
  -- directly, the reply is the first refusal that applies, or else what is left of the event's minutes
  pub answer : Replies (left_refusal p.period p.events m e (length w)) (Left m (sets_of p) e) r
  -- the workspace is cleared, or as it was where there is a refusal
  pub workspace : w' ≡ unless_refused (left_refusal p.period p.events m e (length w)) (cleared w) w
  -- and so it is said of whatever calls the plan has had
  pub list : (cs : List Call) → Decided p cs → Onward p m e (length w) r cs
