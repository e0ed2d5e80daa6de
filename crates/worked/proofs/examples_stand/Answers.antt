use Rattle.std.proofs.Common.{refl}
use Rattle.worked.proofs.Examples.{ring_left, one_round, in_a_level, emptied, sixteen}
use Rattle.worked.proofs.Searches.{ring_found, tight_none, tight_in_a_level}
use Rattle.worked.proofs.examples_stand.Goals as goal

pub returns : goal.returns
returns c = record {
  conditions = record { span_55 = refl; span_5 = refl; span_54 = refl; span_6 = refl; journey_75 = refl; journey_74 = refl };
  ring_left = ring_left;
  one_round = one_round;
  in_a_level = in_a_level;
  emptied = emptied;
  sixteen = sixteen;
  ring_found = ring_found;
  tight_none = tight_none;
  tight_in_a_level = tight_in_a_level;
}
