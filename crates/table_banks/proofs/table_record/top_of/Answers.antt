use Rattle.std.proofs.Common.{◌≡◌, max, rules, fold, arith}
use Rattle.table_banks.proofs.Events.{fold_top}
use Rattle.table_banks.proofs.table_record.top_of.Goals as goal

pub returns : goal.returns
returns c =
    let e : c.fold.result ≡ fold max 0 c.args.events.now = search rules in
    omega (arith, e, fold_top c.args.events.now 0)
