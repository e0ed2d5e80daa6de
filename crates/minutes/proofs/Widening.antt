-- Widening by doubling.
use Rattle.std.proofs.Common.{◌≡◌, ℕ, ◌+◌, ◌-◌, ◌^◌, ◌<◌, ◌≤◌, sym, ap, ◌∙◌, subst, inl, inr, arith}
use lib.Bits.{bit_or, or_lt}
use Rattle.std.proofs.lemmas.Bool.{cases_lt}
use Rattle.minutes.specs.Minutes.{In}
use Rattle.minutes.specs.Differences.{gap}
use Rattle.minutes.proofs.Gaps.{gap_up, gap_gap, gap_is}
use Rattle.minutes.specs.Turns.{Turned, Widened}
use Rattle.minutes.proofs.Bits.{or_left, or_right, in_or, in_below}

pub widened_one : (T s : ℕ) → s < 2 ^ T → Widened T 1 s s
widened_one T s h = record {
  below = h;
  from = λ m i. (0, omega arith, subst (λ k. In k s) (sym (zero_gap m (in_below T s m h i))) i);
  to = λ m d l k i. let e : d ≡ 0 = omega arith in subst (λ k. In k s) (zero_gap m l) (subst (λ z. In (gap T z m) s) e i);
}
  where
    zero_gap : (m : ℕ) → m < T → gap T 0 m ≡ m
    zero_gap m l = let q : m - 0 ≡ m = omega arith in gap_up T 0 m (omega arith) l ∙ q

pub widened_more : (T n k j s r q : ℕ) → k ≤ n → n + k ≡ j → j ≤ T → Widened T n s r → Turned T k r q → Widened T j s (bit_or r q)
widened_more T n k j s r q h sum l w t = record { below = or_lt T r q w.below t.below; from = from; to = to }
  where
    from : (m : ℕ) → In m (bit_or r q) → (d : ℕ) × (d < j) × In (gap T d m) s
    from m i = elim (in_or r q m i) [
      | inl a ↦ let u = w.from m a in (u.0, omega (arith, u.1), u.2)
      | inr b ↦
          let hm = in_below T q m t.below b in
          let u = w.from (gap T k m) (sym (t.bit m hm) ∙ b) in
          (k + u.0, omega (arith, u.1), subst (λ z. In z s) (gap_gap T k u.0 m (omega (arith, u.1)) hm) u.2)
    ]

    to : (m d : ℕ) → m < T → d < j → In (gap T d m) s → In m (bit_or r q)
    to m d hm hd i = elim (cases_lt d n) [
      | inl a ↦ or_left r q m (w.to m d hm a i)
      | inr b ↦
          let e : k + (d - k) ≡ d = omega arith in
          let g : gap T (d - k) (gap T k m) ≡ gap T d m = gap_gap T k (d - k) m (omega arith) hm ∙ ap (λ z. gap T z m) e in
          or_right r q m (t.bit m hm ∙ w.to (gap T k m) (d - k) (gap_is T k m (omega arith) hm).below (omega arith) (subst (λ z. In z s) (sym g) i))
    ]
