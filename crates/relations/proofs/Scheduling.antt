-- A span is met exactly when the difference of its minutes, some number of periods on, is within its bounds.
use Rattle.std.proofs.Common.{◌≡◌, ℕ, zero, suc, ◌+◌, ◌-◌, ◌*◌, ◌<◌, ◌≤◌, true, ◌⊎◌, ℤ, pos, negsuc, ◌+ℤ◌, ◌-ℤ◌, ◌*ℤ◌, neg_ℤ, ◌≤ℤ◌, sym, refl, subst, inl, inr, mul-le-mul_right, arith}
use lib.IntN.{pos-*ℤ-pos, negsuc-*ℤ-pos}
use Rattle.std.proofs.lemmas.Int.{ints}
use Rattle.std.proofs.lemmas.Bool.{le-leb, leb-true, cases_lt}
use Rattle.minutes.specs.Differences.{gap}
use Rattle.minutes.proofs.Gaps.{Round, gap_is}
use Rattle.relations.specs.Conditions.{spans, Periodic, SpanIsPeriodic, WorkedExamples}

-- n periods on
on_least : (l a b p : ℕ) → pos l ≤ℤ ((pos b -ℤ pos a) +ℤ pos p) → l + a ≤ b + p
on_least l a b p h = omega (arith, ints)

on_most : (u a b p : ℕ) → ((pos b -ℤ pos a) +ℤ pos p) ≤ℤ pos u → b + p ≤ u + a
on_most u a b p h = omega (arith, ints)

least_on : (l a b p : ℕ) → l + a ≤ b + p → pos l ≤ℤ ((pos b -ℤ pos a) +ℤ pos p)
least_on l a b p h = omega (arith, ints)

most_on : (u a b p : ℕ) → b + p ≤ u + a → ((pos b -ℤ pos a) +ℤ pos p) ≤ℤ pos u
most_on u a b p h = omega (arith, ints)

-- periods back
back_least : (l a b p : ℕ) → pos l ≤ℤ ((pos b -ℤ pos a) +ℤ neg_ℤ (pos p)) → l + a + p ≤ b
back_least l a b p h = omega (arith, ints)

module _ (T l u a b : ℕ) (hl : l < T) (hu : l ≤ u) (hw : u < l + T) (ha : a < T) (hb : b < T) where
  first : Round T a b (gap T a b)
  first = gap_is T a b (omega arith) hb

  second : Round T l (gap T a b) (gap T l (gap T a b))
  second = gap_is T l (gap T a b) (omega arith) first.below

  -- the remainder, with the periods that it lacks
  whole : (n : ℕ) × (gap T l (gap T a b) + l + a ≡ b + n * T)
  whole = go (gap T a b) (gap T l (gap T a b)) first.sum second.sum
    where
      go : (g h : ℕ) → (g + a ≡ b) ⊎ (g + a ≡ b + T) → (h + l ≡ g) ⊎ (h + l ≡ g + T) → (n : ℕ) × (h + l + a ≡ b + n * T)
      go g h (inl p) (inl q) = (0, omega arith)
      go g h (inl p) (inr q) = (1, omega arith)
      go g h (inr p) (inl q) = (1, omega arith)
      go g h (inr p) (inr q) = (2, omega arith)

  if_met : spans T l u a b ≡ true → Periodic T l u a b
  if_met h =
      let w = whole in
      let n : ℕ = w.0 in
      let k : gap T l (gap T a b) ≤ u - l = leb-true (gap T l (gap T a b)) (u - l) h in
      record {
        turns = pos n;
        least = subst (λ z. pos l ≤ℤ ((pos b -ℤ pos a) +ℤ z)) (sym (pos-*ℤ-pos n T)) (least_on l a b (n * T) (omega (arith, w.1)));
        most = subst (λ z. ((pos b -ℤ pos a) +ℤ z) ≤ℤ pos u) (sym (pos-*ℤ-pos n T)) (most_on u a b (n * T) (omega (arith, w.1)));
      }

  -- at most two periods are lacking
  few : (n : ℕ) → b + n * T ≤ u + a → n < 3
  few n h = elim (cases_lt n 3) [ inl k ↦ k | inr k ↦ absurd (omega (arith, mul-le-mul_right T k)) ]

  remainder : (n : ℕ) → n < 3 → l + a ≤ b + n * T → b + n * T ≤ u + a → gap T l (gap T a b) ≤ u - l
  remainder zero k p q = omega (arith, first.below, first.sum, second.below, second.sum)
  remainder (suc zero) k p q = omega (arith, first.below, first.sum, second.below, second.sum)
  remainder (suc (suc zero)) k p q = omega (arith, first.below, first.sum, second.below, second.sum)
  remainder (suc (suc (suc n))) k p q = absurd (omega arith)

  only_if : Periodic T l u a b → spans T l u a b ≡ true
  only_if h = le-leb (gap T l (gap T a b)) (u - l) (go h.turns h.least h.most)
    where
      go : (k : ℤ) → pos l ≤ℤ ((pos b -ℤ pos a) +ℤ (k *ℤ pos T)) → ((pos b -ℤ pos a) +ℤ (k *ℤ pos T)) ≤ℤ pos u → gap T l (gap T a b) ≤ u - l
      go (pos n) p q =
          let p' = on_least l a b (n * T) (subst (λ z. pos l ≤ℤ ((pos b -ℤ pos a) +ℤ z)) (pos-*ℤ-pos n T) p) in
          let q' = on_most u a b (n * T) (subst (λ z. ((pos b -ℤ pos a) +ℤ z) ≤ℤ pos u) (pos-*ℤ-pos n T) q) in
          remainder n (few n q') p' q'
      go (negsuc n) p q =
          let p' = back_least l a b (suc n * T) (subst (λ z. pos l ≤ℤ ((pos b -ℤ pos a) +ℤ z)) (negsuc-*ℤ-pos n T) p) in
          absurd (omega (arith, p', one_period n))
        where
          one_period : (n : ℕ) → T ≤ suc n * T
          one_period n = omega arith

pub span_is_periodic : SpanIsPeriodic
span_is_periodic = record { if_met = if_met; only_if = only_if }

pub worked_examples : WorkedExamples
worked_examples = record { span_55 = refl; span_5 = refl; span_54 = refl; span_6 = refl; journey_75 = refl; journey_74 = refl }
