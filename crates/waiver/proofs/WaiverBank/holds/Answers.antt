use Rattle.std.proofs.Common.{sym, ◌∙◌}
use Rattle.relations.specs.Meaning.{Meaning}
use Rattle.waiver.proofs.Waiving.{unmarked_holds, marked_inside, marked_outside}
use Rattle.waiver.proofs.WaiverBank.holds.Goals as goal

pub returns-then-not-marked : goal.returns-then-not-marked
returns-then-not-marked g c =
    let m : Meaning = g.B.Bank.meaning c.args.self.now.bank in
    unmarked_holds c.args.self.now.marks.marked m c.args.k c.args.minutes.now _ (sym c.has-marked.ensures ∙ c.if-not-marked.true) c.holds.ensures

pub returns-then-not-in_limits : goal.returns-then-not-in_limits
returns-then-not-in_limits g c =
    let m : Meaning = g.B.Bank.meaning c.args.self.now.bank in
    marked_outside c.args.self.now.marks.marked m c.args.k _ _ c.size.ensures c.reach-reach.ensures c.args.minutes.now (sym c.has-marked.ensures ∙ c.if-not-marked.false) (sym c.in_limits.ensures ∙ c.if-not-in_limits.true)

pub returns : goal.returns
returns g c =
    let m : Meaning = g.B.Bank.meaning c.args.self.now.bank in
    marked_inside c.args.self.now.marks.marked m c.args.k _ _ _ c.size.ensures c.reach-reach.ensures c.period.ensures c.args.minutes.now _ (sym c.has-marked.ensures ∙ c.if-not-marked.false) (sym c.in_limits.ensures ∙ c.if-not-in_limits.false) c.all_below.ensures
