-- How a plan goes on by one call of a list.
use Rattle.std.specs.Prelude.{◌≡◌, ℕ, ◌<◌, List, [], ◌∷◌, ◌++◌, length}
use Rattle.calls.specs.Calls.{Call, ledger}
use Rattle.settle.specs.Workspace.{cleared}
use Rattle.plan.specs.declared.contents.Contents.{Contents}
use Rattle.plan.specs.Decided.{Decided}
use Rattle.runs.specs.Requests.{Reply}
use Rattle.runs.specs.Law.{RightReply}

-- the contents p came from the calls cs, and q comes from these followed by c, whose reply is what the list says of it
pub record Onward (p : Contents) (c : Call) (q : Contents) (old new : List ℕ) (r : Reply) (cs : List Call) : Type 0 where
  pub plan : Decided q (cs ++ c ∷ [])
  pub reply : RightReply p.period p.events (ledger p.period p.events cs) c old new r

-- so whatever calls there were; the period and the number of events stay
pub record GoesOn (p : Contents) (c : Call) (q : Contents) (old new : List ℕ) (r : Reply) : Type 0 where
  pub period : q.period ≡ p.period
  pub events : q.events ≡ p.events
  pub onward : (cs : List Call) → Decided p cs → Onward p c q old new r cs

-- a workspace as calls leave it: they clear its first 4,096 numbers or change nothing, and nothing where it is shorter
pub record Lent (old new : List ℕ) : Type 0 where
  pub clears : cleared new ≡ cleared old
  pub short : length old < 4096 → new ≡ old
