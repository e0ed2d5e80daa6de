-- Minute sets as numbers.
use Rattle.std.proofs.Common.{◌≡◌, ℕ, zero, suc, ◌+◌, ◌/◌, ◌%◌, ◌^◌, ◌<◌, ◌≤◌, ◌⊎◌, sym, refl, ap, inl, inr, le_antisymm, pow-suc, one-add, arith, pow_pos, shr-shr}
use native.Mathlib.Nat.{zero-div, div-eq_of_lt}
use Rattle.minutes.specs.Minutes.{In, Sub}

pub bit_cases : (m s : ℕ) → In m s ⊎ (s / 2 ^ m % 2 ≡ 0)
bit_cases m s = go (s / 2 ^ m % 2) (omega arith)
  where
    go : (b : ℕ) → b < 2 → (b ≡ 1) ⊎ (b ≡ 0)
    go zero h = inr refl
    go (suc zero) h = inl refl
    go (suc (suc b)) h = absurd (omega arith)

pub half : (m s : ℕ) → s / 2 ^ suc m ≡ s / 2 / 2 ^ m
half m s = let e : s / 2 ^ 1 / 2 ^ m ≡ s / 2 ^ (1 + m) = shr-shr s 1 m in rw one-add at (sym e)

pub up : (m s : ℕ) → In m (s / 2) → In (suc m) s
up m s h = rw half h

pub down : (m s : ℕ) → In (suc m) s → In m (s / 2)
down m s h = rw half at h

pub no_minute : (m : ℕ) → In m 0 → ⊥
no_minute m h = let e = zero-div (2 ^ m) in let k : 0 % 2 ≡ 1 = rw e at h in omega arith

pub under_pow : (a : ℕ) → a < 2 ^ a
under_pow zero = omega arith
under_pow (suc a) = omega (arith, under_pow a, pow-suc 2 a)

sub_le_fuel : (k a b : ℕ) → a < 2 ^ k → Sub a b → a ≤ b
sub_le_fuel zero a b h s = omega arith
sub_le_fuel (suc k) a b h s =
    let ih : a / 2 ≤ b / 2 = sub_le_fuel k (a / 2) (b / 2) (omega (arith, pow-suc 2 k)) (λ m i. down m b (s (suc m) (up m a i))) in
    let low : (a % 2 ≡ 0) ⊎ (b % 2 ≡ 1) = elim (bit_cases 0 a) [ inl i ↦ inr (omega (arith, s 0 i)) | inr z ↦ inl (omega arith) ] in
    omega arith

pub sub_le : (a b : ℕ) → Sub a b → a ≤ b
sub_le a b = sub_le_fuel a a b (under_pow a)

pub same_sets : (a b : ℕ) → Sub a b → Sub b a → a ≡ b
same_sets a b f g = le_antisymm (sub_le a b f) (sub_le b a g)

-- a set that is not empty has a minute
some_fuel : (k a : ℕ) → a < 2 ^ k → 0 < a → (m : ℕ) × In m a
some_fuel zero a h p = absurd (omega arith)
some_fuel (suc k) a h p =
    elim (bit_cases 0 a) [
      | inl i ↦ (0, i)
      | inr z ↦ let r = some_fuel k (a / 2) (omega (arith, pow-suc 2 k)) (omega arith) in (suc r.0, up r.0 a r.1)
    ]

pub some_minute : (a : ℕ) → 0 < a → (m : ℕ) × In m a
some_minute a = some_fuel a a (under_pow a)

pub not_empty : (m a : ℕ) → In m a → 0 < a
not_empty m zero h = absurd (no_minute m h)
not_empty m (suc a) h = omega arith

-- one minute alone
pub in_pow : (t m : ℕ) → In t (2 ^ m) → t ≡ m
in_pow zero zero h = refl
in_pow zero (suc m) h = absurd (omega (arith, pow-suc 2 m))
in_pow (suc t) zero h =
    let l : 1 < 2 ^ suc t = omega (arith, pow-suc 2 t, pow_pos t) in
    let e : 1 / 2 ^ suc t ≡ 0 = div-eq_of_lt l in
    let k : 0 % 2 ≡ 1 = rw e at h in absurd (omega arith)
in_pow (suc t) (suc m) h =
    let e : 2 ^ suc m / 2 ≡ 2 ^ m = omega (arith, pow-suc 2 m) in
    let d : In t (2 ^ suc m / 2) = down t (2 ^ suc m) h in
    let d' : In t (2 ^ m) = rw e at d in ap suc (in_pow t m d')

pub pow_in : (m : ℕ) → In m (2 ^ m)
pow_in zero = refl
pow_in (suc m) =
    let e : 2 ^ suc m / 2 ≡ 2 ^ m = omega (arith, pow-suc 2 m) in
    let d : In m (2 ^ suc m / 2) = rw e (pow_in m) in up m (2 ^ suc m) d
