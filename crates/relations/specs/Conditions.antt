-- The conditions of spans and journeys.
use Rattle.std.specs.Prelude.{◌≡◌, ℕ, ◌+◌, ◌-◌, ◌<◌, ◌≤◌, Bool, true, false, List, [], ◌∷◌, ℤ, pos, ◌+ℤ◌, ◌-ℤ◌, ◌*ℤ◌, ◌≤ℤ◌, nat_le}
use Rattle.minutes.specs.Minutes.{at}
use Rattle.minutes.specs.Differences.{gap}

-- a span from l to u between minutes a and b: (b - a - l) mod T is at most u - l
abbrev pub spans : ℕ → ℕ → ℕ → ℕ → ℕ → Bool
spans T l u a b = nat_le (gap T l (gap T a b)) (u - l)

-- the same of a list of two minutes
abbrev pub span_met : ℕ → ℕ → ℕ → List ℕ → Bool
span_met T l u ms = spans T l u (at ms 0) (at ms 1)

-- the lengths of the legs of a chain of minutes, (second - first) mod T each, added up
abbrev pub legs : ℕ → List ℕ → ℕ
legs T [] = 0
legs T (a ∷ []) = 0
legs T (a ∷ b ∷ ms) = gap T a b + legs T (b ∷ ms)

-- a journey: the legs' lengths add up to at most the cap
abbrev pub journey_met : ℕ → ℕ → List ℕ → Bool
journey_met T cap ms = nat_le (legs T ms) cap

-- the constraint of periodic event scheduling: l ≤ b - a + k T ≤ u for some integer k
pub record Periodic (T l u a b : ℕ) : Type 0 where
  pub turns : ℤ
  pub least : pos l ≤ℤ ((pos b -ℤ pos a) +ℤ (turns *ℤ pos T))
  pub most : ((pos b -ℤ pos a) +ℤ (turns *ℤ pos T)) ≤ℤ pos u

-- a span is met exactly when that constraint is
pub record SpanIsPeriodic : Type 0 where
  pub if_met : (T l u a b : ℕ) → l < T → l ≤ u → u < l + T → a < T → b < T → spans T l u a b ≡ true → Periodic T l u a b
  pub only_if : (T l u a b : ℕ) → l < T → l ≤ u → u < l + T → a < T → b < T → Periodic T l u a b → spans T l u a b ≡ true

-- worked examples: a span [55, 65] with period 60 and first minute 0 is met at 55 and 5 and not at 54 and 6; a journey at
-- minutes 50, 10 and 5 with period 60, legs 20 and 55, is met under cap 75 and not under 74
pub record WorkedExamples : Type 0 where
  pub span_55 : span_met 60 55 65 (0 ∷ 55 ∷ []) ≡ true
  pub span_5 : span_met 60 55 65 (0 ∷ 5 ∷ []) ≡ true
  pub span_54 : span_met 60 55 65 (0 ∷ 54 ∷ []) ≡ false
  pub span_6 : span_met 60 55 65 (0 ∷ 6 ∷ []) ≡ false
  pub journey_75 : journey_met 60 75 (50 ∷ 10 ∷ 5 ∷ []) ≡ true
  pub journey_74 : journey_met 60 74 (50 ∷ 10 ∷ 5 ∷ []) ≡ false
