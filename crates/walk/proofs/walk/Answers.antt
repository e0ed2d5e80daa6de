use Rattle.std.proofs.Common.{◌∙◌, arith}
use Rattle.std.proofs.lemmas.List.{length-set}
use Rattle.walk.proofs.Turns.{turn_start, end_at_once, root_suits, root_length, front_short, rest_suits, rest_length, rest_full, child_some, child_short, child_low, end_none, up_less, turn_up, down_less, down_low, turn_down, end_found, end_spent, dead_less, turn_dead}
use Rattle.walk.proofs.walk.Goals as goal

pub returns-then-not-narrow_to_rest : goal.returns-then-not-narrow_to_rest
returns-then-not-narrow_to_rest g c = end_at_once c.requires.posed _ c.requires.floor c.requires.edge c.copy_from_slice.ensures.after c.narrow_to_rest.ensures.settles c.if-not-narrow_to_rest.true

pub turns-init : goal.turns-init
turns-init g c = turn_start c.requires.posed _ c.requires.floor c.requires.edge c.copy_from_slice.ensures.after c.narrow_to_rest.ensures.settles c.if-not-narrow_to_rest.false c.copy_from_slice-2.ensures.after c.requires.onward _ (omega (arith, c.requires.sets, c.requires.posed.some))

pub returns-then-d-eq0 : goal.returns-then-d-eq0
returns-then-d-eq0 g c = end_none c.requires.posed c.turns.invariant c.period-period.ensures c.in_default.ensures c.if-d-eq0.true

pub turns-smaller-in_default : goal.turns-smaller-in_default
turns-smaller-in_default g c = up_less c.requires.posed c.turns.invariant c.period-period.ensures c.in_default.ensures c.raise-d.ensures

pub turns-preserved-in_default : goal.turns-preserved-in_default
turns-preserved-in_default g c = turn_up c.requires.posed c.turns.invariant c.period-period.ensures c.in_default.ensures c.raise-d.ensures

pub refresh-requires : goal.refresh-requires
refresh-requires g c = record {
  suits = root_suits c.requires.posed c.turns.invariant c.period-period.ensures;
  rest = omega (arith, c.turns.auto.rest, c.copy_from_slice-2.ensures.len, c.requires.rest, root_length c.requires.posed c.turns.invariant c.period-period.ensures);
  short = front_short c.requires.posed c.turns.invariant c.period-period.ensures;
}

pub invariant_of-descend : goal.invariant_of-descend
invariant_of-descend g c = record { low = child_low c.requires.posed c.turns.invariant c.period-period.ensures c.refresh.ensures c.in-Some.ensures c.lower.ensures }

pub descend-requires : goal.descend-requires
descend-requires g c = record {
  suits = rest_suits c.requires.posed c.turns.invariant c.period-period.ensures c.refresh.ensures;
  full = rest_full c.requires.posed c.turns.invariant c.period-period.ensures c.refresh.ensures;
  some = child_some c.requires.posed c.turns.invariant c.period-period.ensures c.refresh.ensures c.in-Some.ensures c.lower.ensures;
  short = child_short c.requires.posed c.turns.invariant c.period-period.ensures c.refresh.ensures c.in-Some.ensures c.lower.ensures;
  child = omega (arith, c.turns.auto.child, c.requires.child, rest_length c.requires.posed c.turns.invariant c.period-period.ensures c.refresh.ensures);
}

pub returns-then-d-allowed : goal.returns-then-d-allowed
returns-then-d-allowed g c = end_found c.requires.posed c.turns.invariant c.period-period.ensures c.refresh.ensures c.in-Some.ensures c.lower.ensures c.descend.ensures c.if-descend.true c.if-d-allowed.true

pub turns-smaller-then-descend : goal.turns-smaller-then-descend
turns-smaller-then-descend g c = down_less c.requires.posed c.turns.invariant c.period-period.ensures c.refresh.ensures c.in-Some.ensures c.lower.ensures

pub turns-preserved-then-descend : goal.turns-preserved-then-descend
turns-preserved-then-descend g c = turn_down c.requires.posed c.turns.invariant c.period-period.ensures c.refresh.ensures c.in-Some.ensures c.lower.ensures c.descend.ensures c.if-descend.true c.if-d-allowed.false (c.turns.auto.sets ∙ length-set c.args.sets.now 0 _ ∙ c.requires.sets)

pub returns-then-count-budget : goal.returns-then-count-budget
returns-then-count-budget g c = end_spent c.requires.posed c.turns.invariant c.period-period.ensures c.refresh.ensures c.in-Some.ensures c.lower.ensures c.descend.ensures c.if-descend.false c.if-count-budget.true

pub raise-place-requires-clause-below : goal.raise-place-requires-clause-below
raise-place-requires-clause-below g c i h = omega (arith, down_low c.requires.posed c.turns.invariant c.period-period.ensures c.refresh.ensures c.in-Some.ensures c.lower.ensures i (omega arith), c.period-period.ensures)

pub turns-smaller : goal.turns-smaller
turns-smaller g c = dead_less c.requires.posed c.turns.invariant c.period-period.ensures c.refresh.ensures c.in-Some.ensures c.lower.ensures c.descend.ensures c.if-descend.false c.if-count-budget.false c.raise-place.ensures

pub turns-preserved : goal.turns-preserved
turns-preserved g c = turn_dead c.requires.posed c.turns.invariant c.period-period.ensures c.refresh.ensures c.in-Some.ensures c.lower.ensures c.descend.ensures c.if-descend.false c.if-count-budget.false c.raise-place.ensures c.copy_from_slice-else-descend.ensures.after
