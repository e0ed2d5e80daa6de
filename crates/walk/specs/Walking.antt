-- What the parts of the walk promise (internal).
use Rattle.std.specs.Prelude.{◌≡◌, ℕ, suc, Bool, true, false, List, [], length}
use Rattle.minutes.specs.Minutes.{NoneEmpty}
use Rattle.relations.specs.Meaning.{Meaning}
use Rattle.rest.specs.Rest.{Rest}
use Rattle.search.specs.declared.Answer.{Answer}
use Rattle.search.specs.declared.Answer.TheVariants.{Found, Nothing, Spent}
use Rattle.search.specs.Search.{held, Begins}

-- r' is the rest of f where r was stale, and r still where it was not
pub record Refreshed (m : Meaning) (f r r' : List ℕ) (stale : Bool) : Type 0 where
  pub renewed : stale ≡ true → Rest m f r'
  pub kept : stale ≡ false → r' ≡ r

-- the shorter prefix p, of which r is the rest in the family f, lacks the last minute of p'
pub record Extends (m : Meaning) (f p p' r : List ℕ) : Type 0 where
  pub begins : Begins p p'
  pub one_more : length p' ≡ suc (length p)
  pub rest : Rest m (held p f) r

-- from the rest r of a prefix, that of p' with one minute more: r' where that has no empty set; else r' is r still
pub record Descended (m : Meaning) (p' r r' : List ℕ) (alive : Bool) : Type 0 where
  pub down : alive ≡ true → (f p : List ℕ) → Extends m f p p' r → Rest m (held p' f) r' × NoneEmpty r'
  pub dead : alive ≡ false → (f p : List ℕ) → Extends m f p p' r → (s : List ℕ) → Rest m (held p' f) s → NoneEmpty s → ⊥
  pub kept : alive ≡ false → r' ≡ r

-- what is to be written: the edge where a timetable was found, the floor to go on from where the budget was spent
abbrev pub to_write : Answer → List ℕ → List ℕ → List ℕ
to_write (Found n) edge onward = edge
to_write (Nothing n) edge onward = []
to_write (Spent n) edge onward = onward
