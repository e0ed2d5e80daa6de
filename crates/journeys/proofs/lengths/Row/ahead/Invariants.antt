use Rattle.std.proofs.Common.{◌≡◌, ◌≤◌}
use Rattle.minutes.specs.Minutes.{at}
use Rattle.minutes.specs.Differences.{gap}
use Rattle.journeys.specs.Lengths.{ahead}
use Rattle.journeys.proofs.Leasts.{Filled}
use Rattle.journeys.proofs.lengths.Row.ahead.Given as goal

abbrev pub invariant-loop-b : goal.invariant-loop-b
invariant-loop-b l = Filled l.b (ahead l.fn.period.minutes (at l.self.lengths)) l.lengths
    × (l.best ≡ ahead l.fn.period.minutes (at l.self.lengths) (gap l.fn.period.minutes 1 l.b))
    × (l.best ≤ 1000)
