use Rattle.text.proofs.Standing.{lined}
use Rattle.text.proofs.lines.reader.lined.Goals as goal

pub returns : goal.returns
returns c = lined _
