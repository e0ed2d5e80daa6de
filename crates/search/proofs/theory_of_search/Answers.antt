use Rattle.search.proofs.Proved.{there_is_a_way, one_answer_only, floor_cut, resuming, earliest_or_none, the_number}
use Rattle.search.proofs.AnyWay.{any_way}
use Rattle.search.proofs.Always.{always_answers}
use Rattle.search.proofs.SameMeaning.{same_answers}
use Rattle.search.proofs.theory_of_search.Goals as goal

pub returns : goal.returns
returns c = record {
  way = there_is_a_way;
  always = always_answers;
  one = one_answer_only;
  any = any_way;
  floor = floor_cut;
  same = same_answers;
  resuming = resuming;
  earliest = earliest_or_none;
  number = the_number;
}
