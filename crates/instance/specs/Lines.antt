-- The line of a relation.
use Rattle.std.specs.Prelude.{◌≡◌, ℕ, ◌+◌, ◌-◌, ◌<◌, ◌≤◌, cond, List, [], length, take, drop, Some, None, Option, nat_le, slice_index_or}
use Rattle.records.specs.declared.Span.{Span}
use Rattle.records.specs.declared.Journey.{Journey}
use Rattle.reading.specs.Readings.{Reading}

-- the part of a text at a place, or nothing where the place is not within the text
abbrev pub part_at : List ℕ → ℕ × ℕ → List ℕ
part_at text place = cond (nat_le (place.0 + place.1) (length text)) (take place.1 (drop place.0 text)) []

-- the place of a relation's record: relation k is span k, and behind the spans a journey; none where there is no record
pub record LinePlace (r : Reading) (spans : List Span) (journeys : List Journey) (k : ℕ) (found : Option (ℕ × ℕ)) : Type 0 where
  pub of_span : k < r.spans → k < length spans → (d : Span) → found ≡ Some (slice_index_or spans k d).place
  pub of_journey : r.spans ≤ k → k - r.spans < r.journeys → k - r.spans < length journeys → (d : Journey) →
      found ≡ Some (slice_index_or journeys (k - r.spans) d).place
  pub no_span : k < r.spans → length spans ≤ k → found ≡ None
  pub no_journey : r.spans ≤ k → r.journeys ≤ k - r.spans → found ≡ None
  pub no_place : r.spans ≤ k → length journeys ≤ k - r.spans → found ≡ None
