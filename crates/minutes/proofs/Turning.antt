-- A turn by two shifts.
use Rattle.std.proofs.Common.{◌≡◌, ℕ, ◌+◌, ◌-◌, ◌*◌, ◌/◌, ◌%◌, ◌^◌, ◌<◌, ◌≤◌, sym, ap, ◌∙◌, subst, inl, inr, arith, pow_pos, pow-add, shr-shr}
use lib.Bits.{bit_and, bit_or, and_mask, or_shifted}
use lib.Pow as pow
use Rattle.std.proofs.lemmas.Nat.{one_shl, shl_whole, shr_below, mod_below, mul-add-lt}
use Rattle.std.proofs.lemmas.Bool.{cases_lt}
use Rattle.minutes.specs.Differences.{gap}
use Rattle.minutes.proofs.Gaps.{gap_up, gap_round}
use Rattle.minutes.specs.Turns.{Turned}
use Rattle.minutes.proofs.Bits.{bit_mod}

abbrev turned : ℕ → ℕ → ℕ → ℕ
turned p by s = s % 2 ^ (p - by) * 2 ^ by + s / 2 ^ (p - by)

module _ (p by s : ℕ) (less : by < p) (fits : s < 2 ^ p) where
  whole : by + (p - by) ≡ p
  whole = omega arith

  low_below : s % 2 ^ (p - by) < 2 ^ (p - by)
  low_below = mod_below s (2 ^ (p - by)) (pow_pos (p - by))

  high_below : s / 2 ^ (p - by) < 2 ^ by
  high_below = shr_below s by (p - by) (subst (λ n. s < 2 ^ n) (sym whole) fits)

  turn_is : 0 < by → p ≤ 64 → bit_or (bit_and s ((1 * 2 ^ (p - by)) % 2 ^ 64 - 1) * 2 ^ by % 2 ^ 64) (s / 2 ^ (p - by)) ≡ turned p by s
  turn_is some short =
      ap (λ n. bit_or (n * 2 ^ by % 2 ^ 64) (s / 2 ^ (p - by))) (ap (λ n. bit_and s (n - 1)) (one_shl (p - by) 64 (omega arith)) ∙ and_mask s (p - by))
      ∙ ap (λ n. bit_or n (s / 2 ^ (p - by))) (shl_whole (s % 2 ^ (p - by)) (p - by) by 64 low_below (omega arith))
      ∙ or_shifted (s % 2 ^ (p - by)) by (s / 2 ^ (p - by)) high_below

  turn_below : turned p by s < 2 ^ p
  turn_below =
      let h : turned p by s < 2 ^ by * 2 ^ (p - by) = mul-add-lt (s % 2 ^ (p - by)) (2 ^ by) (s / 2 ^ (p - by)) (2 ^ (p - by)) low_below high_below in
      subst (λ n. turned p by s < n) (sym (pow-add 2 by (p - by)) ∙ ap (λ n. 2 ^ n) whole) h

  -- minute m, at least by, was minute m - by
  on_at : (m : ℕ) → by ≤ m → m < p → turned p by s / 2 ^ m % 2 ≡ s / 2 ^ (m - by) % 2
  on_at m h l =
      let c : m ≡ by + (m - by) = omega arith in
      let d : p - by ≡ (p - m) + (m - by) = omega arith in
      ap (λ k. turned p by s / 2 ^ k % 2) c
      ∙ ap (λ x. x % 2) (sym (shr-shr (turned p by s) by (m - by)))
      ∙ ap (λ x. x / 2 ^ (m - by) % 2) (pow.high (s % 2 ^ (p - by)) by high_below)
      ∙ ap (λ k. s % 2 ^ k / 2 ^ (m - by) % 2) d
      ∙ bit_mod s (p - m) (m - by) (omega arith)

  -- minute m below by was minute m + p - by
  round_at : (m : ℕ) → m < by → turned p by s / 2 ^ m % 2 ≡ s / 2 ^ (m + p - by) % 2
  round_at m h =
      let d : by ≡ (by - m) + m = omega arith in
      let e : p - by + m ≡ m + p - by = omega arith in
      sym (bit_mod (turned p by s) (by - m) m (omega arith))
      ∙ ap (λ k. turned p by s % 2 ^ k / 2 ^ m % 2) (sym d)
      ∙ ap (λ x. x / 2 ^ m % 2) (pow.low (s % 2 ^ (p - by)) by high_below)
      ∙ ap (λ x. x % 2) (shr-shr s (p - by) m)
      ∙ ap (λ k. s / 2 ^ k % 2) e

  turned_bit : (m : ℕ) → m < p → turned p by s / 2 ^ m % 2 ≡ s / 2 ^ gap p by m % 2
  turned_bit m h = elim (cases_lt m by) [
    | inl l ↦ round_at m l ∙ ap (λ k. s / 2 ^ k % 2) (sym (gap_round p by m l (omega arith)))
    | inr l ↦ on_at m l h ∙ ap (λ k. s / 2 ^ k % 2) (sym (gap_up p by m l h))
  ]

  pub turn_turned : 0 < by → p ≤ 64 → Turned p by s (bit_or (bit_and s ((1 * 2 ^ (p - by)) % 2 ^ 64 - 1) * 2 ^ by % 2 ^ 64) (s / 2 ^ (p - by)))
  turn_turned some short = subst (Turned p by s) (sym (turn_is some short)) (record { below = turn_below; bit = turned_bit })

pub turn_none : (p by s : ℕ) → s < 2 ^ p → by ≡ 0 → Turned p by s s
turn_none p by s h e = subst (λ z. Turned p z s s) (sym e) (record { below = h; bit = λ m l. let q : m ≡ m - 0 = omega arith in ap (λ k. s / 2 ^ k % 2) (q ∙ sym (gap_up p 0 m (omega arith) l)) })
