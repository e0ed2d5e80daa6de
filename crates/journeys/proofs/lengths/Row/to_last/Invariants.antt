use Rattle.std.proofs.Common.{◌≡◌, ◌+◌, ◌-◌}
use Rattle.minutes.specs.Minutes.{at}
use Rattle.minutes.specs.Differences.{gap}
use Rattle.journeys.specs.Lengths.{least}
use Rattle.journeys.proofs.lengths.Row.to_last.Given as goal

abbrev pub invariant-loop-a : goal.invariant-loop-a
invariant-loop-a l = l.best ≡ least l.a (λ a. at l.self.lengths a + gap l.fn.period.minutes a (l.fn.period.minutes - 1))
