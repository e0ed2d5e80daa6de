use Rattle.std.proofs.Common.{◌≡◌}
use Rattle.text.specs.Handed.{rows_left}
use Rattle.reading.specs.Readings.{all_taken}
use Rattle.reading.specs.Views.{opened}
use Rattle.reading.proofs.readings.whole.take_all.Given as goal

abbrev pub invariant-loop-line : goal.invariant-loop-line
invariant-loop-line l =
    all_taken (record { reading = opened l.reading; spans = l.spans; journeys = l.journeys }) (rows_left l.line-iterator)
    ≡ all_taken (record { reading = opened l.initial.reading; spans = l.initial.spans; journeys = l.initial.journeys }) (rows_left l.fn.lines)
