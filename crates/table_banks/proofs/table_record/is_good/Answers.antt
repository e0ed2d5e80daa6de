use Rattle.std.proofs.Common.{◌≡◌, true, not, ◌&&◌, sym, ap, ◌∙◌, rules}
use Rattle.relations.specs.ExactNarrowing.{named}
use Rattle.relations.specs.Tables.{is_event}
use Rattle.table_banks.proofs.Events.{named_any}
use Rattle.table_banks.proofs.table_record.is_good.Goals as goal

pub returns-then-contains : goal.returns-then-contains
returns-then-contains c =
    let e : is_event c.args.most c.args.event ≡ true = search rules in
    ap not (c.contains-then-contains.ensures.value ∙ named_any c.args.event c.args.behind.now)
    ∙ sym (ap (λ b. b && not (named c.args.event c.args.behind.now)) e)
