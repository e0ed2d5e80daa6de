-- Steps of check.
use Rattle.std.proofs.Common.{◌≡◌, ℕ, zero, suc, ◌+◌, ◌-◌, ◌<◌, ◌≤◌, min, Bool, true, false, cond, ◌&&◌, leb, List, [], ◌∷◌, length, get_or, take, Some, None, Ok, Err, Option, MatchOption, Result, sym, refl, ap, ◌∙◌, subst, inl, inr, arith}
use Rattle.std.proofs.lemmas.Bool.{cases_lt, cases_Bool, le-leb, lt-leb, leb-true, and_parts, cond-true, cond-false}
use Rattle.std.proofs.lemmas.List.{length-take, take-take}
use Rattle.relations.specs.Meaning.{Meaning, Relation, relation, size, idle}
use Rattle.bank.specs.Calls.{all_below, answer}
use Rattle.bank.proofs.Answering.{limits_from, answer_inside}
use Rattle.refusals.specs.declared.Refusal.{Refusal}
use Rattle.refusals.specs.declared.Refusal.TheVariants.{Short, Range, Bank}
use Rattle.checks.specs.Checked.{lowest, fit, checked, LowestFailing}

capped : (s c : ℕ) → leb (min s (suc c)) c ≡ leb s c
capped s c = elim (cases_lt c s) [
  | inl h ↦ lt-leb _ _ (omega arith) ∙ sym (lt-leb s c h)
  | inr h ↦ le-leb _ _ (omega arith) ∙ sym (le-leb s c h)
]

module _ (m : Meaning) (x : List ℕ) (n p r : ℕ) (hn : n ≡ min (size m) 513) (hp : p ≡ m.period) (hr : r ≡ min m.reach 257) where
  fits : (b : Bool) → (leb n 512 && (leb 2 p && (leb p 64 && leb r 256))) ≡ b → fit m ≡ b
  fits b h =
      ap (λ z. z && (leb 2 m.period && (leb m.period 64 && leb m.reach 256))) (sym (ap (λ z. leb z 512) hn ∙ capped (size m) 512))
      ∙ ap (λ z. leb n 512 && (leb 2 z && (leb z 64 && leb m.reach 256))) (sym hp)
      ∙ ap (λ z. leb n 512 && (leb 2 p && (leb p 64 && z))) (sym (ap (λ z. leb z 256) hr ∙ capped m.reach 256))
      ∙ h

  module _ (h : (leb n 512 && (leb 2 p && (leb p 64 && leb r 256))) ≡ true) where
    pub size_is : n ≡ size m
    size_is = omega (arith, hn, leb-true n 512 (and_parts _ _ h).0)

    reach_low : r ≤ 256
    reach_low = leb-true r 256 (and_parts (leb p 64) _ (and_parts (leb 2 p) _ (and_parts (leb n 512) _ h).1).1).1

    reach_is : r ≡ m.reach
    reach_is = omega (arith, hr, reach_low)

    step_one : checked m x ≡ cond (leb r (length x)) (cond (all_below p (take r x)) (Ok (lowest m.relations 0 (take r x))) (Err Range)) (Err Short)
    step_one = cond-true _ _ _ (fits true h)
        ∙ ap (λ z. cond (leb z (length x)) (cond (all_below m.period (take z x)) (Ok (lowest m.relations 0 (take z x))) (Err Range)) (Err Short)) (sym reach_is)
        ∙ ap (λ z. cond (leb r (length x)) (cond (all_below z (take r x)) (Ok (lowest m.relations 0 (take r x))) (Err Range)) (Err Short)) (sym hp)

    pub answered : (o : Option ℕ) → r ≤ length x → all_below p (take r x) ≡ true → o ≡ lowest m.relations 0 (take r x) → Ok o ≡ checked m x
    answered o l a e = ap Ok e ∙ sym (step_one ∙ cond-true _ _ _ (le-leb r (length x) l) ∙ cond-true _ _ _ a)

    -- within the in-limits, holds answers the condition
    pub holds_is : (k : ℕ) → r ≤ length x → all_below p (take r x) ≡ true → k < n → answer m k (take r x) ≡ (relation m k).condition (take r x)
    holds_is k l a i = sym (answer_inside m k n r size_is reach_is (take r x) ((relation m k).condition (take r x))
        (limits_from n r k (length (take r x)) (record { number = i; table = omega (arith, leb-true n 512 (and_parts _ _ h).0); low = omega (arith, length-take r x); high = omega (arith, length-take r x, reach_low) }))
        (ap (all_below m.period) (take-take r r x (omega arith)) ∙ ap (λ z. all_below z (take r x)) (sym hp) ∙ a)
        refl)

-- what `lowest` gives, by number
some_none : {i : ℕ} → Some i ≡ None → ⊥
some_none e = let z : ◌≡◌ {A = ℕ} 0 1 = cc in omega arith

some_some : (i k : ℕ) → Some i ≡ Some k → i ≡ k
some_some i k e = cc

split_at : (P : ℕ → Type 0) (n : ℕ) → P 0 → ((k : ℕ) → k < n → P (suc k)) → (k : ℕ) → k < suc n → P k
split_at P n z s zero l = z
split_at P n z s (suc k) l = s k (omega arith)

lowest_none : (rs : List Relation) (j : ℕ) (x : List ℕ) → lowest rs j x ≡ None → (k : ℕ) → k < length rs → (get_or rs k idle).condition x ≡ true
lowest_none [] j x e k l = absurd (omega arith)
lowest_none (r ∷ rs) j x e k l = elim (cases_Bool (r.condition x)) [
  | inl c ↦ split_at (λ i. (get_or (r ∷ rs) i idle).condition x ≡ true) (length rs) c (lowest_none rs (suc j) x (sym (cond-true _ _ _ c) ∙ e)) k l
  | inr c ↦ absurd (some_none (sym (cond-false _ _ _ c) ∙ e))
]

lowest_every : (rs : List Relation) (j : ℕ) (x : List ℕ) → ((k : ℕ) → k < length rs → (get_or rs k idle).condition x ≡ true) → lowest rs j x ≡ None
lowest_every [] j x h = refl
lowest_every (r ∷ rs) j x h = cond-true _ _ _ (h 0 (omega arith)) ∙ lowest_every rs (suc j) x (λ k l. h (suc k) (omega arith))

-- a relation that fails, after some that hold, counted from j
record Fails (rs : List Relation) (j : ℕ) (x : List ℕ) (k : ℕ) : Type 0 where
  from : j ≤ k
  inside : k - j < length rs
  fails : (get_or rs (k - j) idle).condition x ≡ false
  before : (i : ℕ) → i < k - j → (get_or rs i idle).condition x ≡ true

lowest_some : (rs : List Relation) (j : ℕ) (x : List ℕ) (k : ℕ) → lowest rs j x ≡ Some k → Fails rs j x k
lowest_some [] j x k e = absurd (some_none (sym e))
lowest_some (r ∷ rs) j x k e = elim (cases_Bool (r.condition x)) [
  | inl c ↦ later c (lowest_some rs (suc j) x k (sym (cond-true _ _ _ c) ∙ e))
  | inr c ↦ here c (some_some j k (sym (cond-false _ _ _ c) ∙ e))
]
  where
    here : r.condition x ≡ false → j ≡ k → Fails (r ∷ rs) j x k
    here c q =
        let z : 0 ≡ k - j = omega arith in
        record {
          from = omega arith;
          inside = omega arith;
          fails = subst (λ n. (get_or (r ∷ rs) n idle).condition x ≡ false) z c;
          before = λ i l. absurd (omega arith);
        }

    later : r.condition x ≡ true → Fails rs (suc j) x k → Fails (r ∷ rs) j x k
    later c f =
        let z : suc (k - suc j) ≡ k - j = omega (arith, f.from) in
        record {
          from = omega (arith, f.from);
          inside = omega (arith, f.from, f.inside);
          fails = subst (λ n. (get_or (r ∷ rs) n idle).condition x ≡ false) z f.fails;
          before = λ i l. split_at (λ n. (get_or (r ∷ rs) n idle).condition x ≡ true) (k - suc j) c f.before i (omega arith);
        }

lowest_failing : (m : Meaning) (x : List ℕ) (o : Option ℕ) → o ≡ lowest m.relations 0 x → LowestFailing m x o
lowest_failing m x o e = record {
  none = λ q. lowest_none m.relations 0 x (sym e ∙ q);
  every = λ h. e ∙ lowest_every m.relations 0 x h;
  in_size = λ k q. omega (arith, (some k q).inside);
  fails = λ k q. let z : k - 0 ≡ k = omega arith in subst (λ n. (relation m n).condition x ≡ false) z (some k q).fails;
  first = λ k q j l. (some k q).before j (omega arith);
}
  where
    some : (k : ℕ) → o ≡ Some k → Fails m.relations 0 x k
    some k q = lowest_some m.relations 0 x k (sym e ∙ q)

err_ok : (e : Refusal) (o : Option ℕ) → ◌≡◌ {A = Result (Option ℕ) Refusal} (Err e) (Ok o) → ⊥
err_ok e o q = let z : ◌≡◌ {A = ℕ} 0 1 = cc in omega arith

ok_ok : (a o : Option ℕ) → ◌≡◌ {A = Result (Option ℕ) Refusal} (Ok a) (Ok o) → o ≡ a
ok_ok a o q = cc

pub checked_found : (m : Meaning) (x : List ℕ) (o : Option ℕ) → checked m x ≡ Ok o → LowestFailing m (take m.reach x) o
checked_found m x o e = elim (cases_Bool (fit m)) [
  | inr a ↦ absurd (err_ok Bank o (sym (cond-false _ _ _ a) ∙ e))
  | inl a ↦ elim (cases_Bool (leb m.reach (length x))) [
    | inr b ↦ absurd (err_ok Short o (sym (cond-true _ _ _ a ∙ cond-false _ _ _ b) ∙ e))
    | inl b ↦ elim (cases_Bool (all_below m.period (take m.reach x))) [
      | inr c ↦ absurd (err_ok Range o (sym (cond-true _ _ _ a ∙ cond-true _ _ _ b ∙ cond-false _ _ _ c) ∙ e))
      | inl c ↦ lowest_failing m (take m.reach x) o (ok_ok _ o (sym (cond-true _ _ _ a ∙ cond-true _ _ _ b ∙ cond-true _ _ _ c) ∙ e))
    ]
  ]
]

lowest_is : (rs : List Relation) (j : ℕ) (y : List ℕ) (i : ℕ) → i < length rs → (get_or rs i idle).condition y ≡ false →
    ((k : ℕ) → k < i → (get_or rs k idle).condition y ≡ true) → lowest rs j y ≡ Some (i + j)
lowest_is [] j y i l c h = absurd (omega arith)
lowest_is (r ∷ rs) j y zero l c h = let e : j ≡ 0 + j = omega arith in cond-false _ _ _ c ∙ ap Some e
lowest_is (r ∷ rs) j y (suc i) l c h =
    let e : i + suc j ≡ suc i + j = omega arith in
    cond-true _ _ _ (h 0 (omega arith)) ∙ lowest_is rs (suc j) y i (omega arith) c (λ k q. h (suc k) (omega arith)) ∙ ap Some e

-- the lowest, by what a search through the numbers below n has found, where `a` answers by the condition
pub lowest_from : (rs : List Relation) (y : List ℕ) (a : ℕ → Bool) (n : ℕ) → n ≡ length rs →
    ((k : ℕ) → k < n → a k ≡ (get_or rs k idle).condition y) → (r : Option ℕ) →
    MatchOption r ((k : ℕ) → 0 ≤ k → k < n → a k ≡ true)
    (λ i. (0 ≤ i) × (i < n) × (a i ≡ false) × ((k : ℕ) → 0 ≤ k → k < i → a k ≡ true)) →
    r ≡ lowest rs 0 y
lowest_from rs y a n e h None d =
    sym (lowest_every rs 0 y (λ k l. let q : k < n = omega (arith, e) in sym (h k q) ∙ d k (omega arith) q))
lowest_from rs y a n e h (Some i) d =
    let z : i + 0 ≡ i = omega arith in
    sym (lowest_is rs 0 y i (omega (arith, e, d.1)) (sym (h i d.1) ∙ d.2)
    (λ k l. sym (h k (omega (arith, d.1))) ∙ d.3 k (omega arith) l) ∙ ap Some z)
