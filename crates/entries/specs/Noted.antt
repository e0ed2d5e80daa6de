-- What the code notes of a line's numbers.
use Rattle.std.specs.Prelude.{◌≡◌, ℕ, ◌+◌, ◌-◌, ◌<◌, ◌≤◌, Bool, ◌&&◌, List, [], ◌∷◌, length, Option, ◌==◌, nat_le, slice_index, slice_range}
use Rattle.text.specs.declared.kind.Kind.{Kind}
use Rattle.text.specs.declared.kind.Kind.TheVariants.{Heading, Span, Journey}
use Rattle.entries.specs.declared.numerals.Numerals.{Numerals}
use Rattle.refusals.specs.declared.Refusal.{Refusal}
use Rattle.refusals.specs.declared.Refusal.TheVariants.{Range, Event}
use Rattle.records.specs.declared.Span as spans
use Rattle.records.specs.declared.Journey as journeys
use Rattle.entries.specs.Tests.{span_range, journey_range, first_wrong}
use Rattle.entries.specs.Entries.{first_of}
use Rattle.entries.specs.Form.{no_number, value_at}

-- the i-th number, from 0
abbrev pub at : List ℕ → ℕ → ℕ
at ns i = slice_index ns i

-- the numerals note the values vs, the first of which is field i
pub record Noted (i : ℕ) (vs : List (Option ℕ)) (n : Numerals) : Type 0 where
  pub count : n.count ≡ length vs
  pub bad : n.bad ≡ no_number i vs
  pub long : length n.values ≡ 8
  pub nth : (j : ℕ) → j < 8 → slice_index n.values j ≡ value_at vs j

-- the count of numbers that a line of the kind has, its letter left out
abbrev pub well_counted_by : Kind → ℕ → Bool
well_counted_by Heading n = n == 2
well_counted_by Span n = n == 6
well_counted_by Journey n = nat_le 4 n && nat_le n 8

-- numbers that are in range
pub record RangedHeading (period events : ℕ) : Type 0 where
  pub period_low : 2 ≤ period
  pub period_high : period ≤ 64
  pub events_low : 1 ≤ events
  pub events_high : events ≤ 256

pub record RangedSpan (T index lower upper weight : ℕ) : Type 0 where
  pub index_low : 1 ≤ index
  pub index_high : index ≤ 65535
  pub lower_below : lower < T
  pub upper_low : lower ≤ upper
  pub upper_below : upper < lower + T
  pub weight_high : weight ≤ 65535

pub record RangedJourney (index cap : ℕ) : Type 0 where
  pub index_low : 1 ≤ index
  pub index_high : index ≤ 65535
  pub cap_high : cap ≤ 315

-- the tests of a span's numbers after those of its form and turn, and the span that they are
abbrev pub span_tests : ℕ → ℕ → List ℕ → Option (Refusal × ℕ)
span_tests T E ns = first_of ((Range, span_range T (at ns 0) (at ns 3) (at ns 4) (at ns 5)) ∷ (Event, first_wrong E [] 2 (at ns 1 ∷ at ns 2 ∷ [])) ∷ [])

abbrev pub span_noted : List ℕ → ℕ × ℕ → spans.Span
span_noted ns place = record { index = at ns 0; from = at ns 1; to = at ns 2; lower = at ns 3; upper = at ns 4; weight = at ns 5; place = place }

-- the same of a journey with so many numbers
abbrev pub journey_tests : ℕ → ℕ → List ℕ → Option (Refusal × ℕ)
journey_tests E count ns = first_of ((Range, journey_range (at ns 0) (at ns 1)) ∷ (Event, first_wrong E [] 4 (slice_range ns 2 count)) ∷ [])

abbrev pub journey_noted : ℕ → List ℕ → ℕ × ℕ → journeys.Journey
journey_noted count ns place = record {
  index = at ns 0;
  cap = at ns 1;
  count = count - 2;
  chain = at ns 2 ∷ at ns 3 ∷ at ns 4 ∷ at ns 5 ∷ at ns 6 ∷ at ns 7 ∷ [];
  place = place;
}
