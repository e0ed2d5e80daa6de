use Rattle.std.proofs.Common.{length}
use Rattle.table_banks.proofs.table_record.+are_good.Given as goal

abbrev pub decreases-are_good : goal.decreases-are_good
decreases-are_good l = length l.events.now
