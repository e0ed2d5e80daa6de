use Rattle.minutes.proofs.Bits.{whole_is}
use Rattle.minutes.proofs.Period.whole.Goals as goal

pub returns : goal.returns
returns c = whole_is _ c.args.self.most
