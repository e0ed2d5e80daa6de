-- The laws of a table of journeys, and what its tests say of each.
use Rattle.std.proofs.Common.{◌≡◌, ℕ, ◌<◌, ◌≤◌, true, ltb, leb, List, length, get_or, arith}
use Rattle.std.proofs.lemmas.Bool.{leb-true, and_parts}
use Rattle.records.specs.declared.Journey.{Journey}
use Rattle.relations.specs.Meaning.{Laws}
use Rattle.relations.specs.Conditions.{journey_met}
use Rattle.relations.specs.Tables.{highest, sound, Chain}
use Rattle.relations.proofs.Tabling.{chain_at, sound_at, table_lawful}
use Rattle.journeys.specs.Journeys.{journey_events, journey_relations, journey_in_range}

-- a journey in its ranges
pub record Ranged (j : Journey) : Type 0 where
  pub cap : j.cap ≤ 315
  pub few : j.count ≤ 6
  pub long : 2 ≤ length (journey_events j)

pub ranged : (j : Journey) → journey_in_range j ≡ true → Ranged j
ranged j h =
    let a = and_parts (ltb 0 j.index) _ h in
    let b = and_parts (leb j.cap 315) _ a.1 in
    let c = and_parts (leb j.count 6) _ b.1 in
    record { cap = leb-true _ _ b.0; few = leb-true _ _ c.0; long = leb-true _ _ c.1 }

pub some_event : (j : Journey) → journey_in_range j ≡ true → 0 < length (journey_events j)
some_event j h = omega (arith, (ranged j h).long)

pub journeys_lawful : (T E : ℕ) (js : List Journey) → sound journey_in_range journey_events E js ≡ true →
    Laws (record { period = T; reach = highest journey_events js; relations = journey_relations T js })
journeys_lawful T E js h = table_lawful journey_in_range journey_events (λ j. journey_met T j.cap) T E js some_event h

module _ (E : ℕ) (js : List Journey) (k : ℕ) (d : Journey) (h : sound journey_in_range journey_events E js ≡ true) (l : k < length js) where
  pub ranged_at : Ranged (get_or js k d)
  ranged_at = ranged (get_or js k d) (sound_at journey_in_range journey_events E js k d h l).0

  -- the chain of a journey stands among n events, for each n that the table's highest event does not pass
  pub placed_at : (n : ℕ) → highest journey_events js ≤ n → Chain n (journey_events (get_or js k d))
  placed_at n t = chain_at journey_in_range journey_events some_event E n js k d h l t
