use Rattle.relations.proofs.Scheduling.{span_is_periodic}
use Rattle.relations.proofs.span_is_periodic.Goals as goal

pub returns : goal.returns
returns c = span_is_periodic
