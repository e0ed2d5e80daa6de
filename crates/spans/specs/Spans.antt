-- What spans mean.
use Rattle.std.specs.Prelude.{◌≡◌, ℕ, ◌+◌, ◌<◌, ◌≤◌, Bool, ◌&&◌, List, [], ◌∷◌, map, nat_le, nat_lt}
use Rattle.records.specs.declared.Span.{Span}
use Rattle.relations.specs.Meaning.{Relation}
use Rattle.relations.specs.ExactNarrowing.{has, any, those, exactly}
use Rattle.relations.specs.Conditions.{spans, span_met}

-- the two events of a span
abbrev pub span_events : Span → List ℕ
span_events s = s.from ∷ s.to ∷ []

-- a span at period T: a condition on the minutes of its two events, narrowed exactly
abbrev pub span_relation : ℕ → Span → Relation
span_relation T s = exactly T (span_events s) (span_met T s.lower s.upper)

abbrev pub span_relations : ℕ → List Span → List Relation
span_relations T ss = map (span_relation T) ss

-- an index from 1, lower below T, upper from lower to lower + T - 1
abbrev pub span_in_range : ℕ → Span → Bool
span_in_range T s =
    nat_lt 0 s.index && (nat_lt s.lower T && (nat_le s.lower s.upper && nat_lt s.upper (s.lower + T)))

-- what a span from l to u leaves of the set s of its first event, beside the set r of its second
abbrev pub from_left : ℕ → ℕ → ℕ → ℕ → ℕ → ℕ
from_left T l u s r = those T (λ a. has a s && any T (λ b. has b r && spans T l u a b))

-- what it leaves of the set r of its second event, beside the set s of its first
abbrev pub to_left : ℕ → ℕ → ℕ → ℕ → ℕ → ℕ
to_left T l u s r = those T (λ b. has b r && any T (λ a. has a s && spans T l u a b))

-- bounds that a span can have at a period from 1 to 64
pub record Bounds (T l u : ℕ) : Type 0 where
  pub least : 1 ≤ T
  pub greatest : T ≤ 64
  pub lower : l < T
  pub upper : l ≤ u
  pub width : u < l + T

-- a span whose bounds are so, and whose events are two of the events 1 to n
pub record Placed (T : ℕ) (s : Span) (n : ℕ) : Type 0 where
  pub bounds : Bounds T s.lower s.upper
  pub from_low : 1 ≤ s.from
  pub from_high : s.from ≤ n
  pub to_low : 1 ≤ s.to
  pub to_high : s.to ≤ n
  pub apart : s.from ≡ s.to → ⊥
