use Rattle.std.proofs.Common.{sym, refl, ◌∙◌}
use Rattle.table_banks.proofs.Placing.{ranged_here, placed_here, below_here}
use Rattle.table_banks.proofs.table_bank.TableBankBank.holds.Goals as goal

pub holds-requires-clause-ranged : goal.holds-requires-clause-ranged
holds-requires-clause-ranged g c =
    let s = c.args.self.now in
    ranged_here (g.R.TableRecord.ranged s.period.minutes) g.R.TableRecord.events (g.met.R.TableRecord.names s.period.minutes) s.records.now s.reach c.args.k _ _ s.reaches s.tested (sym c.in_limits.ensures ∙ c.if-not-in_limits.false)

pub holds-requires-clause-placed : goal.holds-requires-clause-placed
holds-requires-clause-placed g c =
    let s = c.args.self.now in
    placed_here (g.R.TableRecord.ranged s.period.minutes) g.R.TableRecord.events (g.met.R.TableRecord.names s.period.minutes) s.records.now s.reach c.args.k _ _ s.reaches s.tested (sym c.in_limits.ensures ∙ c.if-not-in_limits.false)

pub holds-requires-clause-below : goal.holds-requires-clause-below
holds-requires-clause-below g c =
    let s = c.args.self.now in
    below_here (g.R.TableRecord.ranged s.period.minutes) g.R.TableRecord.events (g.met.R.TableRecord.names s.period.minutes) s.records.now s.reach c.args.k _ _ s.reaches s.tested (sym c.in_limits.ensures ∙ c.if-not-in_limits.false)
    s.period.minutes c.args.minutes.now refl (sym c.all_below.ensures ∙ c.if-not-all_below.false)
