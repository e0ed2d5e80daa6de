use Rattle.relations.proofs.Narrowing.{exact_is_lawful}
use Rattle.relations.proofs.exact_narrowing_is_lawful.Goals as goal

pub returns : goal.returns
returns c = exact_is_lawful
