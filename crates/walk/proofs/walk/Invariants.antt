use Rattle.std.proofs.Common.{length}
use Rattle.search.specs.Theorems.{problem}
use Rattle.search.proofs.Worth.{ahead}
use Rattle.walk.proofs.Turns.{Turn}
use Rattle.walk.proofs.walk.Given as goal

abbrev pub invariant-turns : goal.invariant-turns
invariant-turns g l = Turn (problem (g.B.Bank.meaning l.bank.bank.now) l.allowed) l.initial.edge l.edge l.onward l.root l.rest l.sets l.d l.count l.budget l.stale

abbrev pub decreases-turns : goal.decreases-turns
decreases-turns g l = ahead (g.B.Bank.meaning l.bank.bank.now).period (length l.allowed) l.edge l.d
