use Rattle.std.proofs.Common.{◌≡◌, max, rules, fold, arith}
use Rattle.relations.specs.Tables.{top}
use Rattle.table_banks.proofs.Events.{fold_highest}
use Rattle.table_banks.proofs.tables.highest_event.Goals as goal

pub returns : goal.returns
returns g c =
    let names = g.R.TableRecord.events in
    let e : c.fold.result ≡ fold (λ m r. max m (top (names r))) 0 c.args.records.now = search rules in
    omega (arith, e, fold_highest names c.args.records.now 0)
