-- What the test for an empty set says.
use Rattle.std.proofs.Common.{◌≡◌, ℕ, zero, suc, true, false, ◌||◌, eqb, List, [], ◌∷◌, sym, ap, ◌∙◌, inl, inr, arith}
use Rattle.std.proofs.lemmas.Bool.{cases_Bool, eqb-true, eqb-false, or_parts, false≢true}
use Rattle.minutes.specs.Minutes.{NoneEmpty}
use Rattle.rest.specs.Rest.{has_empty}

pub no_empty : (f : List ℕ) → has_empty f ≡ false → NoneEmpty f
no_empty [] h i l = absurd (omega arith)
no_empty (s ∷ f) h zero l = let n = eqb-false s 0 (or_parts (eqb s 0) (has_empty f) h).0 in omega arith
no_empty (s ∷ f) h (suc i) l = no_empty f (or_parts (eqb s 0) (has_empty f) h).1 i (omega arith)

pub some_empty : (f : List ℕ) → has_empty f ≡ true → NoneEmpty f → ⊥
some_empty [] h full = false≢true h
some_empty (s ∷ f) h full = elim (cases_Bool (eqb s 0)) [
  | inl e ↦ omega (arith, eqb-true s 0 e, full 0 (omega arith))
  | inr e ↦ some_empty f (sym (ap (λ z. z || has_empty f) e) ∙ h) (λ i l. full (suc i) (omega arith))
]
