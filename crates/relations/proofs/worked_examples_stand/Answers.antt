use Rattle.relations.proofs.Scheduling.{worked_examples}
use Rattle.relations.proofs.worked_examples_stand.Goals as goal

pub returns : goal.returns
returns c = worked_examples
