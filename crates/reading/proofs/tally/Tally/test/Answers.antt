use Rattle.std.proofs.Common.{rules}
use Rattle.text.specs.Kinds.{row_of}
use Rattle.reading.specs.Views.{tallied}
use Rattle.reading.proofs.Testing.{line_fault}
use Rattle.reading.proofs.tally.Tally.test.Goals as goal

pub returns-in_err-entry : goal.returns-in_err-entry
returns-in_err-entry c =
    let e = line_fault (tallied c.args.self.now) c.args.places.spans c.args.places.journeys (row_of c.args.line) _ c.in_err-entry.ensures in
    search rules
