-- What becomes of a family that is narrowed until its rest is reached or known to have an empty set.
use Rattle.std.specs.Prelude.{◌≡◌, ℕ, Bool, true, false, List}
use Rattle.minutes.specs.Minutes.{NoneEmpty}
use Rattle.relations.specs.Meaning.{Meaning}
use Rattle.rest.specs.Rest.{Rest}

-- alive says whether no set of the rest of f is empty; where it is so, g is that rest
pub record Settles (m : Meaning) (f g : List ℕ) (alive : Bool) : Type 0 where
  pub rest : alive ≡ true → Rest m f g
  pub full : alive ≡ true → NoneEmpty g
  pub dead : alive ≡ false → (r : List ℕ) → Rest m f r → NoneEmpty r → ⊥
