use Rattle.std.proofs.Common.{arith}
use Rattle.relations.proofs.Joining.{waived_size}
use Rattle.waiver.proofs.WaiverBank.size.Goals as goal

pub returns : goal.returns
returns g c = omega (arith, c.size.ensures, waived_size c.args.self.now.marks.marked 0 (g.B.Bank.meaning c.args.self.now.bank).relations)
