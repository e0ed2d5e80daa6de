use Rattle.std.proofs.Common.{sym, ◌∙◌}
use Rattle.table_banks.proofs.Placing.{ranged_here, placed_here}
use Rattle.table_banks.proofs.table_bank.TableBankBank.narrow.Goals as goal

pub narrow-requires-clause-ranged : goal.narrow-requires-clause-ranged
narrow-requires-clause-ranged g c =
    let s = c.args.self.now in
    ranged_here (g.R.TableRecord.ranged s.period.minutes) g.R.TableRecord.events (g.met.R.TableRecord.names s.period.minutes) s.records.now s.reach c.args.k _ _ s.reaches s.tested (sym c.in_limits.ensures ∙ c.if-not-in_limits.false)

pub narrow-requires-clause-placed : goal.narrow-requires-clause-placed
narrow-requires-clause-placed g c =
    let s = c.args.self.now in
    placed_here (g.R.TableRecord.ranged s.period.minutes) g.R.TableRecord.events (g.met.R.TableRecord.names s.period.minutes) s.records.now s.reach c.args.k _ _ s.reaches s.tested (sym c.in_limits.ensures ∙ c.if-not-in_limits.false)
