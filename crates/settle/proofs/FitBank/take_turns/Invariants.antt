use Rattle.settle.proofs.Turns.{Turning, turns_left}
use Rattle.settle.proofs.FitBank.take_turns.Given as goal

abbrev pub invariant-loop-quiet : goal.invariant-loop-quiet
invariant-loop-quiet g l = Turning (g.B.Bank.meaning l.self.bank.now) l.size l.initial.family l.family l.k l.quiet

abbrev pub decreases-loop-quiet : goal.decreases-loop-quiet
decreases-loop-quiet g l = turns_left l.size l.family l.quiet
