-- The tests of a list of events, and the highest of several.
use Rattle.std.proofs.Common.{◌≡◌, ℕ, min, max, ◌||◌, eqb, List, [], ◌∷◌, length, take, sym, refl, ap, ◌∙◌, inl, inr, arith, fold}
use Rattle.std.proofs.lemmas.Bool.{cases_lt, cases_Bool, eqb-true, eq-eqb, ne_eqb, false≢true}
use Rattle.std.proofs.lemmas.List.{take_all}
use Rattle.std.specs.List.{list_any}
use Rattle.relations.specs.ExactNarrowing.{named}
use Rattle.relations.specs.Tables.{top, highest}

eqb_flip : (a b : ℕ) → eqb a b ≡ eqb b a
eqb_flip a b = elim (cases_Bool (eqb a b)) [
  | inl h ↦ h ∙ sym (eq-eqb b a (sym (eqb-true a b h)))
  | inr h ↦ h ∙ sym (ne_eqb b a (λ q. false≢true (sym h ∙ eq-eqb a b (sym q))))
]

pub named_any : (e : ℕ) (xs : List ℕ) → list_any (λ y. eqb y e) xs ≡ named e xs
named_any e [] = refl
named_any e (x ∷ xs) = ap (λ b. b || list_any (λ y. eqb y e) xs) (eqb_flip x e) ∙ ap (λ b. eqb e x || b) (named_any e xs)

pub fold_top : (xs : List ℕ) (a : ℕ) → fold max a xs ≡ max a (top xs)
fold_top [] a = omega arith
fold_top (x ∷ xs) a = omega (arith, fold_top xs (max a x))

pub fold_highest : {A : Type 0} (names : A → List ℕ) (rs : List A) (a : ℕ) → fold (λ m r. max m (top (names r))) a rs ≡ max a (highest names rs)
fold_highest names [] a = omega arith
fold_highest names (r ∷ rs) a = omega (arith, fold_highest names rs (max a (top (names r))))

-- a front of six that is cut at six
pub front_six : (n m : ℕ) (xs : List ℕ) → length xs ≡ 6 → m ≡ min n 6 → take m xs ≡ take n xs
front_six n m xs l e = elim (cases_lt n 6) [
  | inl h ↦ let q : m ≡ n = omega arith in ap (λ k. take k xs) q
  | inr h ↦ take_all m xs (omega arith) ∙ sym (take_all n xs (omega arith))
]
