-- What a bank means: a period, a reach and a list of relations; and the laws that its relations keep.
use Rattle.std.specs.Prelude.{◌≡◌, ℕ, ◌<◌, ◌≤◌, Bool, true, List, length, take, drop, slice_index_or}
use Rattle.minutes.specs.Minutes.{Within, Timetable, Lies, NoneEmpty, Words, single}

-- a relation: a condition on timetables, and a narrowing that turns a family into one of the same length
pub record Relation : Type 0 where
  pub condition : List ℕ → Bool
  pub narrowing : List ℕ → List ℕ

-- relations are numbered from 0; no condition depends on an event above the reach
pub record Meaning : Type 0 where
  pub period : ℕ
  pub reach : ℕ
  pub relations : List Relation

abbrev pub size : Meaning → ℕ
size m = length m.relations

-- the relation that holds always and narrows nothing
abbrev pub idle : Relation
idle = record { condition = λ _. true; narrowing = λ f. f }

-- relation number k, for k below the size
abbrev pub relation : Meaning → ℕ → Relation
relation m k = slice_index_or m.relations k idle

-- a list of reach to 256 places
pub record Long (reach : ℕ) (xs : List ℕ) : Type 0 where
  pub low : reach ≤ length xs
  pub high : length xs ≤ 256

-- narrowing adds no minute to a set
abbrev pub Deflates : ℕ → Relation → Type 0
Deflates reach r = (f : List ℕ) → Long reach f → Words f → Within (r.narrowing f) f

-- a timetable that lies in the family and meets the condition lies in the narrowed family
abbrev pub Sound : ℕ → ℕ → Relation → Type 0
Sound T reach r =
    (f x : List ℕ) → Long reach f → Words f → Timetable T (length f) x → Lies x f → r.condition x ≡ true → Lies x (r.narrowing f)

-- where each set is one minute below the period, narrowing empties no set exactly when the condition holds
pub record Exact (T reach : ℕ) (r : Relation) : Type 0 where
  pub only : (x : List ℕ) → Long reach x → Timetable T (length x) x → NoneEmpty (r.narrowing (single x)) → r.condition x ≡ true
  pub met : (x : List ℕ) → Long reach x → Timetable T (length x) x → r.condition x ≡ true → NoneEmpty (r.narrowing (single x))

-- of two families, one within the other, the narrowed are so
abbrev pub Monotone : ℕ → Relation → Type 0
Monotone reach r = (f g : List ℕ) → Long reach f → Words f → Words g → Within f g → Within (r.narrowing f) (r.narrowing g)

-- sets beyond the reach are neither changed nor read
pub record Silent (reach : ℕ) (r : Relation) : Type 0 where
  pub kept : (f : List ℕ) → Long reach f → Words f → drop reach (r.narrowing f) ≡ drop reach f
  pub unread : (f g : List ℕ) → Long reach f → Long reach g → Words f → Words g → take reach f ≡ take reach g →
      take reach (r.narrowing f) ≡ take reach (r.narrowing g)

-- the condition depends on no event above the reach
abbrev pub Confined : ℕ → Relation → Type 0
Confined reach r = (x y : List ℕ) → Long reach x → Long reach y → take reach x ≡ take reach y → r.condition x ≡ r.condition y

-- each relation of the meaning, by number
abbrev pub Each : (Relation → Type 0) → Meaning → Type 0
Each P m = (k : ℕ) → k < size m → P (relation m k)

-- the laws of a meaning
pub record Laws (m : Meaning) : Type 0 where
  pub deflation : Each (Deflates m.reach) m
  pub soundness : Each (Sound m.period m.reach) m
  pub exactness : Each (Exact m.period m.reach) m
  pub monotony : Each (Monotone m.reach) m
  pub silence : Each (Silent m.reach) m
  pub confinement : Each (Confined m.reach) m
