-- Narrowing to rest.
use Rattle.std.specs.Prelude.{◌≡◌, ℕ, ◌-◌, ◌<◌, Bool, true, false, cond, ◌||◌, List, [], ◌∷◌, length, ◌==◌}
use Rattle.minutes.specs.Minutes.{Within, Words, at}
use Rattle.relations.specs.Meaning.{Meaning, Long, relation, size}

-- a family is stable when every relation's narrowing leaves it as it is
abbrev pub Stable : Meaning → List ℕ → Type 0
Stable m f = (k : ℕ) → k < size m → (relation m k).narrowing f ≡ f

-- r is the rest of f: the largest stable family within it
pub record Rest (m : Meaning) (f r : List ℕ) : Type 0 where
  pub stable : Stable m r
  pub inside : Within r f
  pub largest : (s : List ℕ) → Stable m s → Within s f → Within s r

-- the family narrowed by one relation after another, given by their numbers
abbrev pub narrowed : Meaning → List ℕ → List ℕ → List ℕ
narrowed m [] f = f
narrowed m (k ∷ ks) f = narrowed m ks ((relation m k).narrowing f)

-- each of these is the number of a relation; a number may stand more than once
abbrev pub Numbers : Meaning → List ℕ → Type 0
Numbers m ks = (i : ℕ) → i < length ks → at ks i < size m

-- a family that the laws speak of: reach to 256 sets, each a 64-bit number
pub record Suits (m : Meaning) (f : List ℕ) : Type 0 where
  pub long : Long m.reach f
  pub words : Words f

-- the timetable meets every relation
abbrev pub Meets : Meaning → List ℕ → Type 0
Meets m x = (k : ℕ) → k < size m → (relation m k).condition x ≡ true

-- some set of the family is empty
abbrev pub has_empty : List ℕ → Bool
has_empty [] = false
has_empty (s ∷ f) = s == 0 || has_empty f

-- the event's set in the rest r, or no minute where some set of the rest is empty
abbrev pub left_in : List ℕ → ℕ → ℕ
left_in r e = cond (has_empty r) 0 (at r (e - 1))

-- s is what is left of the event's minutes in the family f: there is a rest, and s is by it
pub record Left (m : Meaning) (f : List ℕ) (e s : ℕ) : Type 0 where
  pub rest : List ℕ
  pub is_rest : Rest m f rest
  pub set : s ≡ left_in rest e
