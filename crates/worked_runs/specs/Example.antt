-- A search of one event and period 2 that is spent and resumed.
use Rattle.std.specs.Prelude.{◌≡◌, ℕ, false, cond, List, [], ◌∷◌, take, nat_le, Ok}
use Rattle.minutes.specs.Minutes.{at}
use Rattle.relations.specs.Meaning.{Meaning, Relation, Laws}
use Rattle.calls.specs.Calls.{Call, find}
use Rattle.search.specs.declared.Answer.TheVariants.{Nothing, Spent}
use Rattle.search.specs.Search.{Way}
use Rattle.search.specs.Theorems.{problem, SameMeaning}
use Rattle.runs.specs.Requests.{Reply}
use Rattle.runs.specs.declared.requests.Done.TheVariants.{Answered}
use Rattle.runs.specs.Law.{places, allowed_at, FindAt, Determined, LawOverRuns}

-- without the minutes of event 1
abbrev pub emptied : List ℕ → List ℕ
emptied [] = []
emptied (s ∷ f) = 0 ∷ f

-- a relation that never holds, and says so only where event 1 has at most one minute: so each minute is tried, and is a dead end
abbrev pub never : Relation
never = record { condition = λ _. false; narrowing = λ f. cond (nat_le (at f 0) 2) (emptied f) f }

abbrev pub stubborn : Meaning
stubborn = record { period = 2; reach = 1; relations = never ∷ [] }

-- a find with budget 1 from minute 0, and one from minute 1, which has a number behind it that does not count
abbrev pub the_calls : List Call
the_calls = find stubborn (0 ∷ []) 1 1 4096 ∷ find stubborn (1 ∷ 7 ∷ []) 1 1 4096 ∷ []

-- the first is spent and writes minute 1; the second answers none after one dead end
abbrev pub the_replies : List Reply
the_replies = Ok (Answered (Spent 1)) ∷ Ok (Answered (Nothing 1)) ∷ []

abbrev pub before : List ℕ
before = 0 ∷ 0 ∷ []

abbrev pub afterwards : List ℕ
afterwards = 1 ∷ 0 ∷ []

pub record WorkedRun : Type 0 where
  pub laws : Laws stubborn
  pub way : Way (problem stubborn (3 ∷ []))
  pub law : LawOverRuns 2 1 the_calls the_replies before afterwards
  pub first : FindAt the_calls the_replies 0 stubborn (0 ∷ []) 1 (Spent 1)
  pub second : FindAt the_calls the_replies 1 stubborn (1 ∷ 7 ∷ []) 1 (Nothing 1)
  pub same : SameMeaning stubborn stubborn
  pub level : allowed_at 2 1 the_calls 0 ≡ allowed_at 2 1 the_calls 1
  pub from : take 1 (1 ∷ 7 ∷ []) ≡ places 1 afterwards 0
  pub both : Determined (problem stubborn (3 ∷ [])) (0 ∷ []) 2 (Nothing 2) []
