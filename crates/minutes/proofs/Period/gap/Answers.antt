use Rattle.std.proofs.Common.{sym, arith}
use Rattle.minutes.proofs.Gaps.{gap_up, gap_round}
use Rattle.minutes.proofs.Period.gap.Goals as goal

pub returns-then-a-b : goal.returns-then-a-b
returns-then-a-b c = record { is = sym (gap_up c.args.self.minutes c.args.a c.args.b (omega arith) c.requires.b); below = omega arith }

pub returns-else-a-b : goal.returns-else-a-b
returns-else-a-b c = record { is = sym (gap_round c.args.self.minutes c.args.a c.args.b (omega arith) (omega arith)); below = omega arith }
