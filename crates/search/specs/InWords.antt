-- What a find's answer says, in the words of one who asks.
use Rattle.std.specs.Prelude.{◌≡◌, ℕ, ◌<◌, Bool, true, false, List}
use Rattle.search.specs.declared.Answer.{Answer}
use Rattle.search.specs.declared.Answer.TheVariants.{Found, Nothing, Spent}
use Rattle.search.specs.Search.{Problem, Way, Solves, Sought, Unsolved, Counted, Listed, NextFloor}

-- the number that an answer carries
abbrev pub carried : Answer → ℕ
carried (Found n) = n
carried (Nothing n) = n
carried (Spent n) = n

-- the three words
abbrev pub says_found : Answer → Bool
says_found (Found n) = true
says_found (Nothing n) = false
says_found (Spent n) = false

abbrev pub says_none : Answer → Bool
says_none (Found n) = false
says_none (Nothing n) = true
says_none (Spent n) = false

abbrev pub says_spent : Answer → Bool
says_spent (Found n) = false
says_spent (Nothing n) = false
says_spent (Spent n) = true

-- Earliest or none: a find that is not spent says none exactly when no timetable from the floor on lies in the allowed family
-- and meets every relation; otherwise it says found and has written the earliest, every other being later
pub record EarliestOrNone (q : Problem) (floor : List ℕ) (answer : Answer) (written : List ℕ) : Type 0 where
  pub none_if : says_spent answer ≡ false → Unsolved q floor → says_none answer ≡ true
  pub none_only : says_none answer ≡ true → Unsolved q floor
  pub otherwise : says_spent answer ≡ false → (x : List ℕ) → Solves q floor x → says_found answer ≡ true
  pub earliest : says_found answer ≡ true → Sought q floor written

-- The number: the dead ends that count are so many, whichever way relations are narrowed; a find that is not spent carries that
-- number; it is spent exactly when the number exceeds the budget, and then carries the budget and has written the next floor
pub record TheNumber (q : Problem) (way : Way q) (floor : List ℕ) (budget : ℕ) (answer : Answer) (written : List ℕ) : Type 0 where
  pub number : ℕ
  pub nth : ℕ → List ℕ
  pub listed : Listed (Counted q way floor) number nth
  pub unspent : says_spent answer ≡ false → carried answer ≡ number
  pub spent_if : budget < number → says_spent answer ≡ true
  pub spent_only : says_spent answer ≡ true → budget < number
  pub budget_carried : says_spent answer ≡ true → carried answer ≡ budget
  pub next : says_spent answer ≡ true → NextFloor q floor budget nth written
