-- What is true of rests, for every meaning that keeps its laws.
use Rattle.std.specs.Prelude.{◌≡◌, ℕ, List, length}
use Rattle.minutes.specs.Minutes.{Within, Timetable, Lies, single}
use Rattle.relations.specs.Meaning.{Meaning, Laws, Long}
use Rattle.rest.specs.Rest.{Stable, Rest, narrowed, Numbers, Suits, Meets}

-- a family has one rest at most
abbrev pub OneRest : Type 0
OneRest = (m : Meaning) (f r s : List ℕ) → Rest m f r → Rest m f s → r ≡ s

-- in whichever order relations are narrowed: where it ends in a stable family, that is the rest
abbrev pub AnyOrder : Type 0
AnyOrder = (m : Meaning) → Laws m → (f ks : List ℕ) → Suits m f → Numbers m ks → Stable m (narrowed m ks f) → Rest m f (narrowed m ks f)

-- some order ends in a stable family; so every family has a rest
abbrev pub SomeOrder : Type 0
SomeOrder = (m : Meaning) → Laws m → (f : List ℕ) → Suits m f → (ks : List ℕ) × Numbers m ks × Stable m (narrowed m ks f)

-- a timetable that lies in the family and meets every relation lies in the rest
abbrev pub NoneLost : Type 0
NoneLost = (m : Meaning) → Laws m → (f r x : List ℕ) → Suits m f → Rest m f r →
    Timetable m.period (length f) x → Lies x f → Meets m x → Lies x r

-- where single minutes are stable, they meet every relation
abbrev pub SinglesMeet : Type 0
SinglesMeet = (m : Meaning) → Laws m → (x : List ℕ) → Long m.reach x → Timetable m.period (length x) x → Stable m (single x) → Meets m x

-- a rest is its own rest, and that of every family between it and the family it came from
pub record RestBetween (m : Meaning) (f r : List ℕ) : Type 0 where
  pub itself : Rest m r r
  pub between : (g : List ℕ) → Within r g → Within g f → Rest m g r

abbrev pub RestAgain : Type 0
RestAgain = (m : Meaning) (f r : List ℕ) → Rest m f r → RestBetween m f r

-- of two families, one within the other, the rests are so
abbrev pub RestGrows : Type 0
RestGrows = (m : Meaning) (f g r s : List ℕ) → Within f g → Rest m f r → Rest m g s → Within r s
