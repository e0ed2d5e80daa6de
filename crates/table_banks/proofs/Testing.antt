-- What the tests of a table say of it.
use Rattle.std.proofs.Common.{◌≡◌, ℕ, ◌≤◌, Bool, true, leb, List, [], ◌∷◌, length, take, Ok, Err, Result, sym, refl, ◌∙◌, inl, inr, arith}
use Rattle.std.proofs.lemmas.Bool.{cases_Bool, cond-true, cond-false, le-leb, and_from, leb-true}
use Rattle.refusals.specs.declared.Refusal.{Refusal}
use Rattle.refusals.specs.declared.Refusal.TheVariants.{Short, Range, Event}
use Rattle.relations.specs.Tables.{good_events, sound}
use Rattle.table_banks.specs.Verdicts.{records_verdict, table_verdict}

err_ok : (e : Refusal) → ◌≡◌ {A = Result (Unit {0}) Refusal} (Err e) (Ok tt) → ⊥
err_ok e q = let z : ◌≡◌ {A = ℕ} 0 1 = cc in omega arith

-- a table that is not refused
module _ {A : Type 0} (range : A → Bool) (names : A → List ℕ) (E : ℕ) where
  records_sound : (rs : List A) → records_verdict range (λ r. good_events E (names r)) rs ≡ Ok tt → sound range names E rs ≡ true
  records_sound [] h = refl
  records_sound (r ∷ rs) h = elim (cases_Bool (range r)) [
    | inr a ↦ absurd (err_ok Range (sym (cond-false _ _ _ a) ∙ h))
    | inl a ↦ elim (cases_Bool (good_events E (names r))) [
      | inr b ↦ absurd (err_ok Event (sym (cond-true _ _ _ a ∙ cond-false _ _ _ b) ∙ h))
      | inl b ↦ and_from _ _ (and_from _ _ a b) (records_sound rs (sym (cond-true _ _ _ a ∙ cond-true _ _ _ b) ∙ h))
    ]
  ]

  pub table_long : (n : ℕ) (rs : List A) → table_verdict range (λ r. good_events E (names r)) n rs ≡ Ok tt → n ≤ length rs
  table_long n rs h = elim (cases_Bool (leb n (length rs))) [
    | inl a ↦ leb-true n (length rs) a
    | inr a ↦ absurd (err_ok Short (sym (cond-false _ _ _ a) ∙ h))
  ]

  pub table_sound : (n : ℕ) (rs : List A) → table_verdict range (λ r. good_events E (names r)) n rs ≡ Ok tt → sound range names E (take n rs) ≡ true
  table_sound n rs h = records_sound (take n rs) (sym (cond-true _ _ _ (le-leb n (length rs) (table_long n rs h))) ∙ h)
