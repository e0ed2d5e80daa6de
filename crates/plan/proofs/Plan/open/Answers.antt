use Rattle.std.proofs.Common.{rules, arith}
use Rattle.std.proofs.lemmas.Grind.{common_steps}
use Rattle.plan.proofs.Going.{open_on}
use Rattle.plan.proofs.Plan.open.Goals as goal

pub returns-clause-list : goal.returns-clause-list
returns-clause-list c = open_on _ _ _ (search rules) (grind (arith, common_steps))
