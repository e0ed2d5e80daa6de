use Rattle.std.proofs.Common.{◌≡◌}
use Rattle.text.specs.Handed.{rows_left}
use Rattle.reading.specs.Readings.{first_fault}
use Rattle.reading.specs.Views.{tallied}
use Rattle.reading.proofs.readings.whole.test_all.Given as goal

abbrev pub invariant-loop-line : goal.invariant-loop-line
invariant-loop-line l =
    first_fault (tallied l.tally) l.places.spans l.places.journeys (rows_left l.line-iterator)
    ≡ first_fault (tallied l.initial.tally) l.places.spans l.places.journeys (rows_left l.fn.lines)
