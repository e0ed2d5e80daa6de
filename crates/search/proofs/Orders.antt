-- The order of timetables and prefixes.
use Rattle.std.proofs.Common.{◌≡◌, ℕ, zero, suc, ◌<◌, ◌≤◌, min, ◌⊎◌, List, length, take, sym, ◌∙◌, subst, inl, inr, arith}
use Rattle.std.proofs.lemmas.Bool.{cases_order, cases_lt}
use Rattle.std.proofs.lemmas.List.{ext_get_or, length-take, get_or-take}
use Rattle.minutes.specs.Minutes.{Before, at, Timetable}
use Rattle.search.specs.Search.{Begins}

pub before_irreflexive : (x : List ℕ) → Before x x → ⊥
before_irreflexive x b = omega (arith, b.less)

pub before_trans : (x y z : List ℕ) → Before x y → Before y z → Before x z
before_trans x y z b c =
    elim (cases_order b.place c.place) [
      | inl e ↦ record { place = b.place; in_x = b.in_x; in_y = omega (arith, c.in_y); same = λ j h. b.same j h ∙ c.same j (omega arith); less = omega (arith, b.less, subst (λ k. at y k < at z k) (sym e) c.less) }
      | inr (inl l) ↦ record { place = b.place; in_x = b.in_x; in_y = omega (arith, c.in_y); same = λ j h. b.same j h ∙ c.same j (omega arith); less = omega (arith, b.less, c.same b.place l) }
      | inr (inr l) ↦ record { place = c.place; in_x = omega (arith, b.in_x); in_y = c.in_y; same = λ j h. b.same j (omega arith) ∙ c.same j h; less = omega (arith, c.less, b.same c.place l) }
    ]

-- the first place below n where two lists differ
data Differ (x y : List ℕ) (n : ℕ) : Type 0 where
  alike : ((j : ℕ) → j < n → at x j ≡ at y j) → Differ x y n
  apart : (k : ℕ) → k < n → ((j : ℕ) → j < k → at x j ≡ at y j) → (at x k < at y k) ⊎ (at y k < at x k) → Differ x y n

differ : (x y : List ℕ) (n : ℕ) → Differ x y n
differ x y zero = alike (λ j h. absurd (omega arith))
differ x y (suc n) =
    elim (differ x y n) [
      | alike s ↦ elim (cases_order (at x n) (at y n)) [
        | inl e ↦ alike (λ j h. elim (cases_lt j n) [ inl l ↦ s j l | inr g ↦ let q : n ≡ j = omega arith in subst (λ k. at x k ≡ at y k) q e ])
        | inr d ↦ apart n (omega arith) s d
      ]
      | apart k h s d ↦ apart k (omega arith) s d
    ]

pub data Compared (x y : List ℕ) : Type 0 where
  lower : Before x y → Compared x y
  upper : Before y x → Compared x y
  inner : Begins x y → Compared x y
  outer : Begins y x → Compared x y

pub compared : (x y : List ℕ) → Compared x y
compared x y =
    elim (differ x y (min (length x) (length y))) [
      | alike s ↦ elim (cases_lt (length y) (length x)) [
        | inl l ↦ outer (record { shorter = omega arith; same = λ j h. sym (s j (omega arith)) })
        | inr l ↦ inner (record { shorter = l; same = λ j h. s j (omega arith) })
      ]
      | apart k h s d ↦ elim d [
        | inl l ↦ lower (record { place = k; in_x = omega arith; in_y = omega arith; same = s; less = l })
        | inr l ↦ upper (record { place = k; in_x = omega arith; in_y = omega arith; same = λ j g. sym (s j g); less = l })
      ]
    ]

pub begins_same : (x y : List ℕ) → Begins x y → length y ≤ length x → x ≡ y
begins_same x y b h = ext_get_or 0 x y (omega (arith, b.shorter)) (λ j l. b.same j l)

pub before_begins : (x p q : List ℕ) → Before x p → Begins p q → Before x q
before_begins x p q b g = record { place = b.place; in_x = b.in_x; in_y = omega (arith, b.in_y, g.shorter); same = λ j h. b.same j h ∙ g.same j (omega (arith, b.in_y)); less = omega (arith, b.less, g.same b.place b.in_y) }

pub begins_before : (p q y : List ℕ) → Before p y → Begins p q → Before q y
begins_before p q y b g = record { place = b.place; in_x = omega (arith, b.in_x, g.shorter); in_y = b.in_y; same = λ j h. sym (g.same j (omega (arith, b.in_x))) ∙ b.same j h; less = omega (arith, b.less, g.same b.place b.in_x) }

pub begins_not_before : (p q : List ℕ) → Begins p q → Before p q → ⊥
begins_not_before p q g b = omega (arith, b.less, g.same b.place b.in_x)

pub begins_not_after : (p q : List ℕ) → Begins p q → Before q p → ⊥
begins_not_after p q g b = omega (arith, b.less, g.same b.place b.in_y)

pub take_begins : (n : ℕ) (y : List ℕ) → Begins (take n y) y
take_begins n y = record { shorter = omega (arith, length-take n y); same = λ j h. get_or-take n y j 0 (omega (arith, length-take n y)) }

pub two_timetables : (T E : ℕ) (x y : List ℕ) → Timetable T E x → Timetable T E y → (x ≡ y) ⊎ (Before x y ⊎ Before y x)
two_timetables T E x y u v =
    elim (compared x y) [
      | lower b ↦ inr (inl b)
      | upper b ↦ inr (inr b)
      | inner g ↦ inl (begins_same x y g (omega (arith, u.len, v.len)))
      | outer g ↦ inl (sym (begins_same y x g (omega (arith, u.len, v.len))))
    ]
