use Rattle.plan.proofs.Shaping.{sets_fresh}
use Rattle.plan.proofs.Plan.blank.Goals as goal

pub invariant_of-result-clause-sets : goal.invariant_of-result-clause-sets
invariant_of-result-clause-sets c = sets_fresh c.fresh.result 2 1 c.fresh.ensures
