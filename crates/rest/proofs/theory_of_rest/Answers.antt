use Rattle.rest.proofs.Settling.{one_rest, any_order, some_order, none_lost, singles_meet, rest_again, rest_grows}
use Rattle.rest.proofs.theory_of_rest.Goals as goal

pub returns : goal.returns
returns c = record { one = one_rest; order = any_order; exists = some_order; lies = none_lost; singles = singles_meet; again = rest_again; grows = rest_grows }
