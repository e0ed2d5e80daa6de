use Rattle.std.proofs.Common.{◌≡◌, take, drop}
use Rattle.relations.specs.Tables.{good_events}
use Rattle.table_banks.specs.Verdicts.{records_verdict}
use Rattle.table_banks.proofs.tables.test_table.Given as goal

abbrev pub invariant-loop-record : goal.invariant-loop-record
invariant-loop-record g l =
    records_verdict (g.R.TableRecord.ranged l.period) (λ r. good_events l.most (g.R.TableRecord.events r)) (drop l.record-index (take l.count l.table))
    ≡ records_verdict (g.R.TableRecord.ranged l.period) (λ r. good_events l.most (g.R.TableRecord.events r)) (take l.count l.table)
