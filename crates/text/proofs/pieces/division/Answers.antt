use Rattle.text.proofs.Division.{divided}
use Rattle.text.proofs.Dividing.{few_pieces}
use Rattle.text.proofs.pieces.division.Goals as goal

pub returns : goal.returns
returns c = record { division = divided _ _; few = few_pieces _ _ }
