use Rattle.std.proofs.Common.{length}
use Rattle.journeys.proofs.lengths.+sweep.Given as goal

abbrev pub decreases-sweep : goal.decreases-sweep
decreases-sweep l = length l.chain.now
