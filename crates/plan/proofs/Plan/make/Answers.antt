use Rattle.std.proofs.Common.{arith}
use Rattle.std.proofs.lemmas.Grind.{common_steps}
use Rattle.plan.proofs.Going.{made_on}
use Rattle.plan.proofs.Shaping.{sets_fresh}
use Rattle.plan.proofs.Plan.make.Goals as goal

pub invariant_of-self-clause-sets : goal.invariant_of-self-clause-sets
invariant_of-self-clause-sets c = sets_fresh c.fresh-self.result c.args.period c.args.events c.fresh-self.ensures

pub returns-clause-list : goal.returns-clause-list
returns-clause-list c = made_on _ _ c.args.period c.args.events (grind (arith, common_steps))
