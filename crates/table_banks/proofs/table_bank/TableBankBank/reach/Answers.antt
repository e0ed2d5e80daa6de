use Rattle.std.proofs.Common.{arith}
use Rattle.relations.proofs.Tabling.{highest_sound}
use Rattle.table_banks.proofs.table_bank.TableBankBank.reach.Goals as goal

pub returns : goal.returns
returns g c =
    let s = c.args.self.now in
    omega (arith, s.reaches, highest_sound (g.R.TableRecord.ranged s.period.minutes) g.R.TableRecord.events 256 s.records.now s.tested)
