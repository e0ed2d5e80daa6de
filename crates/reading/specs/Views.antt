-- What the reading types of the code hold, as a reading.
use Rattle.std.specs.Prelude.{Ok, Err, Result}
use Rattle.refusals.specs.declared.Fault.{Fault}
use Rattle.reading.specs.declared.tally.Tally.{Tally}
use Rattle.reading.specs.declared.readings.OpenReading.{OpenReading}
use Rattle.reading.specs.declared.readings.ClosedReading.{ClosedReading}
use Rattle.reading.specs.Readings.{Reading}

abbrev pub tallied : Tally → Reading
tallied t = record { period = t.heading.period; events = t.heading.events; spans = t.spans; journeys = t.journeys }

abbrev pub tallied_result : Result Tally Fault → Result Reading Fault
tallied_result (Ok t) = Ok (tallied t)
tallied_result (Err f) = Err f

abbrev pub opened : OpenReading → Reading
opened o = tallied o.tally

abbrev pub closed : ClosedReading → Reading
closed c = tallied c.tally

abbrev pub opened_result : Result OpenReading Fault → Result Reading Fault
opened_result (Ok o) = Ok (opened o)
opened_result (Err f) = Err f

abbrev pub closed_result : Result ClosedReading Fault → Result Reading Fault
closed_result (Ok c) = Ok (closed c)
closed_result (Err f) = Err f
