-- Differences of differences round the period: from a minute by a span, and the way back.
use Rattle.std.proofs.Common.{◌≡◌, ℕ, ◌+◌, ◌-◌, ◌*◌, ◌%◌, ◌<◌, ◌≤◌, ◌⊎◌, ap, ◌∙◌, inl, inr, mod-eq_of_lt, arith}
use native.Mathlib.Nat.{add-mod_right}
use Rattle.std.proofs.lemmas.Bool.{cases_lt}
use Rattle.minutes.specs.Differences.{gap}
use Rattle.minutes.proofs.Gaps.{Round, gap_is}

-- a is m - d - l where d is m - a - l
turn_about : (T l d m p q r s : ℕ) → d < T → Round T d m p → Round T l p q → Round T q m r → Round T l r s → s ≡ d
turn_about T l d m p q r s h a b c e = omega (arith, a.below, b.below, c.below, e.below, a.sum, b.sum, c.sum, e.sum)

pub gap_about : (T l d m : ℕ) → l < T → d < T → m < T → gap T l (gap T (gap T l (gap T d m)) m) ≡ d
gap_about T l d m hl hd hm =
    let a = gap_is T d m (omega arith) hm in
    let b = gap_is T l _ (omega arith) a.below in
    let c = gap_is T _ m (omega (arith, b.below)) hm in
    let e = gap_is T l _ (omega arith) c.below in
    turn_about T l d m _ _ _ _ hd a b c e

-- the way back: k is - l - w
pub record Back (T l w k : ℕ) : Type 0 where
  pub below : k < T
  pub sum : (k + l + w ≡ 0) ⊎ ((k + l + w ≡ T) ⊎ (k + l + w ≡ T + T))

pub back_is : (T l w : ℕ) → l < T → w < T → Back T l w ((2 * T - l - w) % T)
back_is T l w h j = elim (cases_lt (2 * T - l - w) T) [
  | inl n ↦ let e : (2 * T - l - w) % T ≡ 2 * T - l - w = mod-eq_of_lt n in record { below = omega (arith, e); sum = inr (inr (omega (arith, e))) }
  | inr n ↦ elim (cases_lt 0 (l + w)) [
    | inl p ↦
        let a : T - l - w < T = omega arith in
        let q : 2 * T - l - w ≡ (T - l - w) + T = omega arith in
        let e : (2 * T - l - w) % T ≡ T - l - w = ap (λ n. n % T) q ∙ add-mod_right (T - l - w) T ∙ mod-eq_of_lt a in
        record { below = omega (arith, e); sum = inr (inl (omega (arith, e))) }
    | inr p ↦
        let z : 0 < T = omega arith in
        let q : 2 * T - l - w ≡ (0 + T) + T = omega arith in
        let e : (2 * T - l - w) % T ≡ 0 = ap (λ n. n % T) q ∙ add-mod_right (0 + T) T ∙ add-mod_right 0 T ∙ mod-eq_of_lt z in
        record { below = omega (arith, e); sum = inl (omega (arith, e)) }
  ]
]

-- from b back to a is w - (from a to b), each less its least
back_about : (T l w k a b p q x y : ℕ) → w < T → Back T l w k → Round T b a p → Round T k p q → Round T a b x → Round T l x y → (q ≤ w → y ≤ w) × (y ≤ w → q ≤ w)
back_about T l w k a b p q x y h e f g i j = (
  (λ m. omega (arith, e.below, f.below, g.below, i.below, j.below, e.sum, f.sum, g.sum, i.sum, j.sum, m)),
  (λ m. omega (arith, e.below, f.below, g.below, i.below, j.below, e.sum, f.sum, g.sum, i.sum, j.sum, m)),
)

pub gap_back : (T l w k a b : ℕ) → l < T → w < T → a < T → b < T → Back T l w k →
    (gap T k (gap T b a) ≤ w → gap T l (gap T a b) ≤ w) × (gap T l (gap T a b) ≤ w → gap T k (gap T b a) ≤ w)
gap_back T l w k a b hl hw ha hb e =
    let f = gap_is T b a (omega arith) ha in
    let g = gap_is T k _ (omega (arith, e.below)) f.below in
    let i = gap_is T a b (omega arith) hb in
    let j = gap_is T l _ (omega arith) i.below in
    back_about T l w k a b _ _ _ _ hw e f g i j
