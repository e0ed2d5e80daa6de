use Rattle.std.proofs.Common.{rules, sym, ◌∙◌}
use Rattle.std.proofs.iter.runs.Sources.{ranges}
use Rattle.entries.proofs.Events.{none_wrong, one_wrong}
use Rattle.entries.proofs.tests.event_fault.Goals as goal

pub returns-in_err-wrong-clause-fault : goal.returns-in_err-wrong-clause-fault
returns-in_err-wrong-clause-fault c =
    c.from_residual.ensures ∙ sym (none_wrong c.args.most c.args.first c.args.events.now (λ k l. search (rules, ranges)))

pub overflow_add-result : goal.overflow_add-result
overflow_add-result c = search (rules, ranges)

pub returns-clause-fault : goal.returns-clause-fault
returns-clause-fault c =
    sym (one_wrong c.args.most c.args.first c.args.events.now c.in_ok-wrong.wrong (search (rules, ranges)) (search (rules, ranges)) (search (rules, ranges)))
