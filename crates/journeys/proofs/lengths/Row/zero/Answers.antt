use Rattle.std.proofs.Common.{arith}
use Rattle.journeys.proofs.Leasts.{row_none}
use Rattle.journeys.proofs.lengths.Row.zero.Goals as goal

pub invariant_of-result : goal.invariant_of-result
invariant_of-result c = record { small = (row_none (λ _. 0) 0 (omega arith)).small }
