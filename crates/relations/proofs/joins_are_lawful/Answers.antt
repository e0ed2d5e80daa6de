use Rattle.relations.proofs.Joining.{joins_are_lawful}
use Rattle.relations.proofs.joins_are_lawful.Goals as goal

pub returns : goal.returns
returns c = joins_are_lawful
