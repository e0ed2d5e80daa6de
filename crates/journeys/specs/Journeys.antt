-- What journeys mean.
use Rattle.std.specs.Prelude.{ℕ, Bool, ◌&&◌, List, map, length, take, nat_le, nat_lt}
use Rattle.records.specs.declared.Journey.{Journey}
use Rattle.relations.specs.Meaning.{Relation}
use Rattle.relations.specs.ExactNarrowing.{exactly}
use Rattle.relations.specs.Conditions.{journey_met}

-- the events of its chain
abbrev pub journey_events : Journey → List ℕ
journey_events j = take j.count j.chain

-- a journey at period T: a condition on the minutes of its events, narrowed exactly
abbrev pub journey_relation : ℕ → Journey → Relation
journey_relation T j = exactly T (journey_events j) (journey_met T j.cap)

abbrev pub journey_relations : ℕ → List Journey → List Relation
journey_relations T js = map (journey_relation T) js

-- an index from 1, a cap of at most 315, a chain of 2 to 6 events
abbrev pub journey_in_range : Journey → Bool
journey_in_range j = nat_lt 0 j.index && (nat_le j.cap 315 && (nat_le j.count 6 && nat_le 2 (length (journey_events j))))
