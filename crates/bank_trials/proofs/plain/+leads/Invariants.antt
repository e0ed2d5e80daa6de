use Rattle.std.proofs.Common.{length}
use Rattle.bank_trials.proofs.plain.+leads.Given as goal

abbrev pub decreases-leads : goal.decreases-leads
decreases-leads l = length l.chain.now
