-- Differences round the period.
use Rattle.std.proofs.Common.{◌≡◌, ℕ, ◌+◌, ◌-◌, ◌%◌, ◌<◌, ◌≤◌, ◌⊎◌, ap, ◌∙◌, inl, inr, mod-eq_of_lt, arith}
use native.Mathlib.Nat.{add-mod_right}
use Rattle.std.proofs.lemmas.Bool.{cases_lt}
use Rattle.minutes.specs.Differences.{gap}

pub gap_up : (T a b : ℕ) → a ≤ b → b < T → gap T a b ≡ b - a
gap_up T a b h k =
    let e : b + T - a ≡ (b - a) + T = omega arith in
    let l : b - a < T = omega arith in
    ap (λ n. n % T) e ∙ add-mod_right (b - a) T ∙ mod-eq_of_lt l

pub gap_round : (T a b : ℕ) → b < a → a ≤ T → gap T a b ≡ b + T - a
gap_round T a b h k = let l : b + T - a < T = omega arith in mod-eq_of_lt l

-- a difference is below T, and added to a gives b, perhaps T later
pub record Round (T a b g : ℕ) : Type 0 where
  pub below : g < T
  pub sum : (g + a ≡ b) ⊎ (g + a ≡ b + T)

pub gap_is : (T a b : ℕ) → a ≤ T → b < T → Round T a b (gap T a b)
gap_is T a b h k = elim (cases_lt b a) [
  | inl l ↦ let e = gap_round T a b l h in record { below = omega (arith, e); sum = inr (omega (arith, e)) }
  | inr l ↦ let e = gap_up T a b l k in record { below = omega (arith, e); sum = inl (omega (arith, e)) }
]

-- a difference of a difference
later : (T a d m g h k : ℕ) → a + d ≤ T → Round T a m g → Round T d g h → Round T (a + d) m k → h ≡ k
later T a d m g h k l p q r = omega (arith, p.below, q.below, r.below, p.sum, q.sum, r.sum)

pub gap_gap : (T a d m : ℕ) → a + d ≤ T → m < T → gap T d (gap T a m) ≡ gap T (a + d) m
gap_gap T a d m l h =
    let p = gap_is T a m (omega arith) h in
    later T a d m _ _ _ l p (gap_is T d (gap T a m) (omega arith) p.below) (gap_is T (a + d) m l h)
