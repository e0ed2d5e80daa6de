use Rattle.std.proofs.Common.{take, sym, ◌∙◌, arith}
use Rattle.relations.proofs.Tabling.{sound_more}
use Rattle.table_banks.proofs.Testing.{table_sound}
use Rattle.table_banks.proofs.table_bank.TableBank.fill.Goals as goal

pub invariant_of-self-clause-tested : goal.invariant_of-self-clause-tested
invariant_of-self-clause-tested g c =
    let ranged = g.R.TableRecord.ranged c.period.result in
    let events = g.R.TableRecord.events in
    let s = table_sound ranged events c.events.result c.entered-count.result c.args.table.now (sym c.test_table.ensures ∙ c.in_ok-test_table.was) in
    sound_more ranged events c.events.result 256 (take c.entered-count.result c.args.table.now) (omega (arith, c.events.ensures, c.args.reading.now.tally.heading.events_high)) s
