use Rattle.std.proofs.Common.{arith}
use Rattle.minutes.proofs.Widening.{widened_one, widened_more}
use Rattle.minutes.proofs.Period.widen.Goals as goal

pub loop-done-init : goal.loop-done-init
loop-done-init c = (omega arith, widened_one _ _ c.requires.set)

pub loop-done-preserved : goal.loop-done-preserved
loop-done-preserved c =
    (omega arith, widened_more _ _ _ _ _ _ _ (omega arith) (omega arith) (omega arith) c.loop-done.invariant.1 c.turn-wide.ensures)
