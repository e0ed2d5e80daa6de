use Rattle.std.proofs.Common.{subst}
use Rattle.settle.specs.Settles.{Settles}
use Rattle.left.proofs.Leaving.{left_alive, left_dead}
use Rattle.left.proofs.left_at.Goals as goal

pub returns-then-alive : goal.returns-then-alive
returns-then-alive g c = left_alive _ _ _ _ (subst (Settles _ _ _) c.if-alive.true c.narrow_to_rest-alive.ensures.settles)

pub returns-else-alive : goal.returns-else-alive
returns-else-alive g c = left_dead _ _ _ _ (g.met.B.Bank.laws c.args.bank.now.bank.now) c.requires.suits (subst (Settles _ _ _) c.if-alive.false c.narrow_to_rest-alive.ensures.settles)
