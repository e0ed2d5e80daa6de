use Rattle.calls.proofs.InWords.{ledgers_right}
use Rattle.calls.proofs.Restoring.{shut_restores}
use Rattle.calls.proofs.Allowing.{either_order, allow_again, family_right}
use Rattle.calls.proofs.laws_of_calls.Goals as goal

pub returns : goal.returns
returns c = record { ledger = ledgers_right; family = family_right; shut = shut_restores; order = either_order; again = allow_again }
