use Rattle.relations.proofs.Assigning.{exact_in_words}
use Rattle.relations.proofs.exact_narrowing_in_words.Goals as goal

pub returns : goal.returns
returns c = exact_in_words
