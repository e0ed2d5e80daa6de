use Rattle.minutes.specs.Minutes.{at}
use Rattle.journeys.proofs.Leasts.{Filled}
use Rattle.journeys.proofs.Scanning.{by}
use Rattle.journeys.proofs.lengths.Row.within.Given as goal

abbrev pub invariant-loop-m : goal.invariant-loop-m
invariant-loop-m l = Filled l.m (by l.set (at l.self.lengths)) l.lengths
