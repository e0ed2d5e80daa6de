-- Minutes of AND, OR and of a number below a power of two.
use Rattle.std.proofs.Common.{◌≡◌, ℕ, ◌+◌, ◌-◌, ◌*◌, ◌/◌, ◌%◌, ◌^◌, ◌<◌, ◌≤◌, min, max, ◌⊎◌, sym, ap, ◌∙◌, subst, inl, inr, arith, pow_pos, pow_mono}
use native.Mathlib.Nat.{div-eq_of_lt}
use lib.Bits.{bit_and, bit_or, and_step, or_step, and_shr, or_shr, and_mask}
use lib.Pow.{ones_split, field, mod-mod-pow}
use lib.Pow as pow
use Rattle.std.proofs.lemmas.Nat.{mod-mul-add, mod_below}
use Rattle.std.proofs.lemmas.Bool.{cases_lt}
use Rattle.minutes.specs.Minutes.{In}
use Rattle.minutes.proofs.Sets.{bit_cases}

low_and : (x y : ℕ) → bit_and x y % 2 ≡ min (x % 2) (y % 2)
low_and x y =
    let m : min (x % 2) (y % 2) < 2 = omega (arith, mod_below x 2 (omega arith), mod_below y 2 (omega arith)) in
    ap (λ n. n % 2) (and_step x y) ∙ mod-mul-add (bit_and (x / 2) (y / 2)) 2 (min (x % 2) (y % 2)) m

low_or : (x y : ℕ) → bit_or x y % 2 ≡ max (x % 2) (y % 2)
low_or x y =
    let m : max (x % 2) (y % 2) < 2 = omega (arith, mod_below x 2 (omega arith), mod_below y 2 (omega arith)) in
    ap (λ n. n % 2) (or_step x y) ∙ mod-mul-add (bit_or (x / 2) (y / 2)) 2 (max (x % 2) (y % 2)) m

and_bit : (a b m : ℕ) → bit_and a b / 2 ^ m % 2 ≡ min (a / 2 ^ m % 2) (b / 2 ^ m % 2)
and_bit a b m = ap (λ n. n % 2) (and_shr a b m) ∙ low_and (a / 2 ^ m) (b / 2 ^ m)

or_bit : (a b m : ℕ) → bit_or a b / 2 ^ m % 2 ≡ max (a / 2 ^ m % 2) (b / 2 ^ m % 2)
or_bit a b m = ap (λ n. n % 2) (or_shr a b m) ∙ low_or (a / 2 ^ m) (b / 2 ^ m)

pub and_in : (a b m : ℕ) → In m a → In m b → In m (bit_and a b)
and_in a b m h k = omega (arith, and_bit a b m, h, k)

pub in_and : (a b m : ℕ) → In m (bit_and a b) → In m a × In m b
in_and a b m h = (omega (arith, and_bit a b m, h), omega (arith, and_bit a b m, h))

pub or_left : (a b m : ℕ) → In m a → In m (bit_or a b)
or_left a b m h = omega (arith, or_bit a b m, h)

pub or_right : (a b m : ℕ) → In m b → In m (bit_or a b)
or_right a b m h = omega (arith, or_bit a b m, h)

pub in_or : (a b m : ℕ) → In m (bit_or a b) → In m a ⊎ In m b
in_or a b m h = elim (bit_cases m a) [ inl i ↦ inl i | inr z ↦ inr (omega (arith, or_bit a b m, h, z)) ]

-- a set below 2 ^ T has minutes below T only
pub in_below : (T s m : ℕ) → s < 2 ^ T → In m s → m < T
in_below T s m h i = elim (cases_lt m T) [
  | inl l ↦ l
  | inr l ↦
      let p : 2 ^ T ≤ 2 ^ m = pow_mono l in
      let q : s < 2 ^ m = omega arith in
      let e : s / 2 ^ m ≡ 0 = div-eq_of_lt q in
      let z : 0 % 2 ≡ 1 = subst (λ n. n % 2 ≡ 1) e i in absurd (omega arith)
]

pub whole_is : (T : ℕ) → T ≤ 64 → 18446744073709551615 / 2 ^ (64 - T) ≡ 2 ^ T - 1
whole_is T h =
    let k : T + (64 - T) ≡ 64 = omega arith in
    let o : 2 ^ 64 - 1 ≡ (2 ^ T - 1) * 2 ^ (64 - T) + (2 ^ (64 - T) - 1) = ap (λ n. 2 ^ n - 1) (sym k) ∙ ones_split T (64 - T) in
    let p : 2 ^ (64 - T) - 1 < 2 ^ (64 - T) = omega (arith, pow_pos (64 - T)) in
    ap (λ n. n / 2 ^ (64 - T)) o ∙ pow.high (2 ^ T - 1) (64 - T) p

-- bit k of n is bit k of n % 2 ^ (m + k), where m is not 0
pub bit_mod : (n m k : ℕ) → 0 < m → n % 2 ^ (m + k) / 2 ^ k % 2 ≡ n / 2 ^ k % 2
bit_mod n m k h =
    let e : m ≡ m - 1 + 1 = omega arith in
    ap (λ x. x % 2) (field n m k) ∙ ap (λ j. n / 2 ^ k % 2 ^ j % 2) e ∙ mod-mod-pow (n / 2 ^ k) (m - 1) 1

-- a set cut to the minutes below T
pub cut_bit : (T s m : ℕ) → m < T → bit_and s (2 ^ T - 1) / 2 ^ m % 2 ≡ s / 2 ^ m % 2
cut_bit T s m h =
    let e : T ≡ (T - m) + m = omega arith in
    ap (λ n. n / 2 ^ m % 2) (and_mask s T) ∙ ap (λ k. s % 2 ^ k / 2 ^ m % 2) e ∙ bit_mod s (T - m) m (omega arith)
