use Rattle.reading.proofs.Tables.{whole_read}
use Rattle.reading.proofs.readings.whole.whole.Goals as goal

pub returns : goal.returns
returns c = whole_read c.args.spans.now c.args.journeys.now c.args.text.now
