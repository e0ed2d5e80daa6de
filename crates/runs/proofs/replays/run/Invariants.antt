use Rattle.std.proofs.Common.{length}
use Rattle.runs.specs.Requests.{calls_of}
use Rattle.runs.proofs.Running.{Running}
use Rattle.runs.proofs.replays.run.Given as goal

abbrev pub invariant-loop-i : goal.invariant-loop-i
invariant-loop-i g l = Running l.initial.plan.contents.period l.initial.plan.contents.events
    (calls_of g.B.Bank.meaning l.initial.plan.contents.events (length l.initial.workspace) l.requests)
    l.i l.plan.contents l.initial.replies l.replies l.initial.timetables l.timetables l.initial.workspace l.workspace
