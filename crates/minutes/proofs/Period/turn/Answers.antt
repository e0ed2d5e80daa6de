use Rattle.std.proofs.Common.{arith}
use Rattle.minutes.proofs.Turning.{turn_turned, turn_none}
use Rattle.minutes.proofs.Period.turn.Goals as goal

pub returns-then-by-eq0 : goal.returns-then-by-eq0
returns-then-by-eq0 c = turn_none _ _ _ c.requires.set (omega arith)

pub returns : goal.returns
returns c = turn_turned _ _ _ c.requires.by c.requires.set (omega arith) c.args.self.most
