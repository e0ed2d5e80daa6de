use Rattle.worked_runs.proofs.Worked.{worked_run}
use Rattle.worked_runs.proofs.a_resumed_search_is_met.Goals as goal

pub returns : goal.returns
returns c = worked_run
