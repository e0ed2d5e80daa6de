-- Families with an empty set.
use Rattle.std.proofs.Common.{◌≡◌, ℕ, zero, suc, Bool, true, false, not, ◌||◌, eqb, List, [], ◌∷◌, sym, refl, ap, ◌∙◌, inl, inr, arith}
use Rattle.std.proofs.lemmas.Bool.{cases_Bool, eqb-true, eqb-false, or_parts, false≢true, not-true, not-false}
use Rattle.std.specs.List.{list_any}
use Rattle.minutes.specs.Minutes.{at, NoneEmpty}
use Rattle.minutes.proofs.Sets.{sub_le}
use Rattle.relations.specs.Meaning.{Meaning}
use Rattle.rest.specs.Rest.{Stable, Rest, has_empty}
use Rattle.rest.proofs.Settling.{Came, came_rest}
use Rattle.settle.specs.Settles.{Settles}

-- what the test for an empty set says
pub any_empty : (f : List ℕ) → list_any (λ s. eqb s 0) f ≡ has_empty f
any_empty [] = refl
any_empty (s ∷ f) = ap (λ z. eqb s 0 || z) (any_empty f)

pub no_empty : (f : List ℕ) → has_empty f ≡ false → NoneEmpty f
no_empty [] h i l = absurd (omega arith)
no_empty (s ∷ f) h zero l = let n = eqb-false s 0 (or_parts (eqb s 0) (has_empty f) h).0 in omega arith
no_empty (s ∷ f) h (suc i) l = no_empty f (or_parts (eqb s 0) (has_empty f) h).1 i (omega arith)

pub some_empty : (f : List ℕ) → has_empty f ≡ true → NoneEmpty f → ⊥
some_empty [] h full = false≢true h
some_empty (s ∷ f) h full = elim (cases_Bool (eqb s 0)) [
  | inl e ↦ omega (arith, eqb-true s 0 e, full 0 (omega arith))
  | inr e ↦ some_empty f (sym (ap (λ z. z || has_empty f) e) ∙ h) (λ i l. full (suc i) (omega arith))
]

-- a set that is empty on the way stays empty in the rest
came_empty : (m : Meaning) (f g r : List ℕ) → Came m f g → has_empty g ≡ true → Rest m f r → NoneEmpty r → ⊥
came_empty m f g r c e rest full =
    let w = c.above r rest.stable rest.inside in
    some_empty g e (λ i l. omega (arith, full i (omega (arith, w.len)), sub_le (at r i) (at g i) (w.sub i)))

pub stops_dead : (m : Meaning) (f g : List ℕ) → Came m f g → (b : Bool) → b ≡ list_any (λ s. eqb s 0) g → b ≡ true → Settles m f g false
stops_dead m f g c b is e = record { rest = λ u. absurd (false≢true u); full = λ u. absurd (false≢true u); dead = λ _ r. came_empty m f g r c (sym (is ∙ any_empty g) ∙ e) }

pub ends : (m : Meaning) (f g : List ℕ) → Came m f g → Stable m g → (b : Bool) → b ≡ list_any (λ s. eqb s 0) g → Settles m f g (not b)
ends m f g c t b is = record {
  rest = λ u. came_rest m f g c t;
  full = λ u. no_empty g (sym (is ∙ any_empty g) ∙ not-true b u);
  dead = λ u r. came_empty m f g r c (sym (is ∙ any_empty g) ∙ not-false b u);
}
