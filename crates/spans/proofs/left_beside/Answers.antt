use Rattle.spans.proofs.Spanning.{left_beside_is}
use Rattle.spans.proofs.left_beside.Goals as goal

pub returns : goal.returns
returns c = left_beside_is c.args.period.minutes c.args.on c.args.width c.args.other c.args.set _ _ c.requires.on c.requires.width (rw c.whole.ensures at c.turn-turned.ensures) c.widen.ensures
