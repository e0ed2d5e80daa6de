-- Tests of minutes: has, any, those, named, choice.
use Rattle.std.proofs.Common.{◌≡◌, ℕ, zero, suc, ◌+◌, ◌*◌, ◌/◌, ◌%◌, ◌^◌, ◌<◌, ◌≤◌, Bool, true, false, cond, eqb, List, [], ◌∷◌, map, sym, refl, subst, inl, inr, arith}
use Rattle.std.proofs.lemmas.Bool.{eqb-true, eq-eqb, cases_Bool, cond-true, cond-false, and_parts, and_from, or_cases, or_left, or_right, both_ways}
use Rattle.minutes.specs.Minutes.{In}
use Rattle.relations.specs.ExactNarrowing.{has, any, those, named, choice}
use Rattle.minutes.proofs.Sets.{no_minute, up, down}

pub has_in : (m s : ℕ) → has m s ≡ true → In m s
has_in m s h = eqb-true (s / 2 ^ m % 2) 1 h

pub in_has : (m s : ℕ) → In m s → has m s ≡ true
in_has m s h = eq-eqb (s / 2 ^ m % 2) 1 h

pub any_yes : (n : ℕ) (p : ℕ → Bool) → any n p ≡ true → (m : ℕ) × (m < n) × (p m ≡ true)
any_yes zero p h = absurd (both_ways false refl h)
any_yes (suc n) p h = elim (or_cases (p 0) (any n (λ m. p (suc m))) h) [
  | inl e ↦ (0, omega arith, e)
  | inr e ↦ let r = any_yes n (λ m. p (suc m)) e in (suc r.0, omega (arith, r.1), r.2)
]

pub any_from : (n : ℕ) (p : ℕ → Bool) (m : ℕ) → m < n → p m ≡ true → any n p ≡ true
any_from zero p m l h = absurd (omega arith)
any_from (suc n) p zero l h = or_left (p 0) (any n (λ m. p (suc m))) h
any_from (suc n) p (suc m) l h = or_right (p 0) (any n (λ m. p (suc m))) (any_from n (λ m. p (suc m)) m (omega arith) h)

one_bit : (b : Bool) → cond b 1 0 ≤ 1
one_bit true = omega arith
one_bit false = omega arith

pub in_those : (n : ℕ) (p : ℕ → Bool) (m : ℕ) → In m (those n p) → (m < n) × (p m ≡ true)
in_those zero p m h = absurd (no_minute m h)
in_those (suc n) p zero h = elim (cases_Bool (p 0)) [
  | inl e ↦ (omega arith, e)
  | inr e ↦ absurd (omega (arith, cond-false {A = ℕ} (p 0) 1 0 e))
]
in_those (suc n) p (suc m) h =
    let q : ℕ → Bool = λ k. p (suc k) in
    let s : ℕ = cond (p 0) 1 0 + 2 * those n q in
    let e : s / 2 ≡ those n q = omega (arith, one_bit (p 0)) in
    let r = in_those n q m (subst (In m) e (down m s h)) in
    (omega (arith, r.0), r.1)

pub those_in : (n : ℕ) (p : ℕ → Bool) (m : ℕ) → m < n → p m ≡ true → In m (those n p)
those_in zero p m l h = absurd (omega arith)
those_in (suc n) p zero l h = omega (arith, cond-true {A = ℕ} (p 0) 1 0 h)
those_in (suc n) p (suc m) l h =
    let q : ℕ → Bool = λ k. p (suc k) in
    let s : ℕ = cond (p 0) 1 0 + 2 * those n q in
    let e : s / 2 ≡ those n q = omega (arith, one_bit (p 0)) in
    up m s (subst (In m) (sym e) (those_in n q m (omega arith) h))

pub named_head : (e : ℕ) (es : List ℕ) → named e (e ∷ es) ≡ true
named_head e es = or_left (eqb e e) (named e es) (eq-eqb e e refl)

pub named_tail : (e d : ℕ) (es : List ℕ) → named e es ≡ true → named e (d ∷ es) ≡ true
named_tail e d es h = or_right (eqb e d) (named e es) h

-- functions that agree on the named events
pub same_map : (x y : ℕ → ℕ) (es : List ℕ) → ((e : ℕ) → named e es ≡ true → x e ≡ y e) → map x es ≡ map y es
same_map x y [] h = refl
same_map x y (e ∷ es) h =
    let a = h e (named_head e es) in
    let b = same_map x y es (λ d n. h d (named_tail d e es n)) in
    λ i. a i ∷ b i

-- a choice is there: one minute for each event, for which the condition holds
pub choice_from : (T : ℕ) (may : ℕ → ℕ → Bool) (es : List ℕ) (c : List ℕ → Bool) (x : ℕ → ℕ)
    → ((e : ℕ) → named e es ≡ true → (x e < T) × (may e (x e) ≡ true)) → c (map x es) ≡ true → choice T may es c ≡ true
choice_from T may [] c x h k = k
choice_from T may (e ∷ es) c x h k =
    let a = h e (named_head e es) in
    any_from T _ (x e) a.0 (and_from (may e (x e)) _ a.1
    (choice_from T may es (λ ms. c (x e ∷ ms)) x (λ d i. h d (named_tail d e es i)) k))

-- where each event may have one minute only, the condition holds of these
pub choice_single : (T : ℕ) (may : ℕ → ℕ → Bool) (es : List ℕ) (c : List ℕ → Bool) (x : ℕ → ℕ)
    → ((e t : ℕ) → named e es ≡ true → may e t ≡ true → t ≡ x e) → choice T may es c ≡ true → c (map x es) ≡ true
choice_single T may [] c x h k = k
choice_single T may (e ∷ es) c x h k =
    let r = any_yes T _ k in
    let a = and_parts (may e r.0) _ r.2 in
    let i = choice_single T may es (λ ms. c (r.0 ∷ ms)) x (λ d t j. h d t (named_tail d e es j)) a.1 in
    subst (λ t. c (t ∷ map x es) ≡ true) (h e r.0 (named_head e es) a.0) i

-- what may be chosen more leaves the choice
pub choice_more : (T : ℕ) (may more : ℕ → ℕ → Bool) (es : List ℕ) (c : List ℕ → Bool)
    → ((e t : ℕ) → named e es ≡ true → may e t ≡ true → more e t ≡ true) → choice T may es c ≡ true → choice T more es c ≡ true
choice_more T may more [] c h k = k
choice_more T may more (e ∷ es) c h k =
    let r = any_yes T _ k in
    let a = and_parts (may e r.0) _ r.2 in
    any_from T _ r.0 r.1 (and_from (more e r.0) _ (h e r.0 (named_head e es) a.0)
    (choice_more T may more es (λ ms. c (r.0 ∷ ms)) (λ d t j. h d t (named_tail d e es j)) a.1))

-- one minute below T that each event may have
abbrev pub Chosen : ℕ → (ℕ → ℕ → Bool) → List ℕ → List ℕ → Type 0
Chosen T may [] [] = Unit {0}
Chosen T may [] (m ∷ ms) = ⊥
Chosen T may (e ∷ es) [] = ⊥
Chosen T may (e ∷ es) (m ∷ ms) = (m < T) × (may e m ≡ true) × Chosen T may es ms

pub choice_some : (T : ℕ) (may : ℕ → ℕ → Bool) (es : List ℕ) (c : List ℕ → Bool) → choice T may es c ≡ true → (ms : List ℕ) × Chosen T may es ms × (c ms ≡ true)
choice_some T may [] c h = ([], tt, h)
choice_some T may (e ∷ es) c h =
    let r = any_yes T _ h in
    let a = and_parts (may e r.0) _ r.2 in
    let q = choice_some T may es (λ ms. c (r.0 ∷ ms)) a.1 in
    (r.0 ∷ q.0, (r.1, a.0, q.1), q.2)

pub choice_made : (T : ℕ) (may : ℕ → ℕ → Bool) (es ms : List ℕ) (c : List ℕ → Bool) → Chosen T may es ms → c ms ≡ true → choice T may es c ≡ true
choice_made T may [] [] c p h = h
choice_made T may [] (m ∷ ms) c p h = absurd p
choice_made T may (e ∷ es) [] c p h = absurd p
choice_made T may (e ∷ es) (m ∷ ms) c p h = any_from T _ m p.0 (and_from (may e m) _ p.1 (choice_made T may es ms (λ ns. c (m ∷ ns)) p.2 h))
