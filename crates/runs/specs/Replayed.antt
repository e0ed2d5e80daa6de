-- What a replay leaves.
use Rattle.std.specs.Prelude.{◌≡◌, ℕ, List, length, drop, Some, None, Option}
use Rattle.refusals.specs.declared.Refusal.{Refusal}
use Rattle.calls.specs.Calls.{Call, unless_refused}
use Rattle.runs.specs.Requests.{Reply}
use Rattle.runs.specs.Requests.{wiped}
use Rattle.runs.specs.Law.{LawOverRuns}

-- of a replay of the calls cs with the refusal x: the replies were `before` and are `replies`, the timetables old and new, the
-- workspace w and v. A refused one changes nothing. Otherwise the law holds, the replies beyond those of the calls are as they
-- were, and the workspace is wiped.
pub record Replayed (x : Option Refusal) (T E : ℕ) (cs : List Call) (before replies : List Reply) (old new w v : List ℕ) : Type 0 where
  pub law : x ≡ None → LawOverRuns T E cs replies old new
  pub others : x ≡ None → drop (length cs) replies ≡ drop (length cs) before
  pub workspace : v ≡ unless_refused x (wiped w) w
  pub kept_replies : (e : Refusal) → x ≡ Some e → replies ≡ before
  pub kept_timetables : (e : Refusal) → x ≡ Some e → new ≡ old
