use Rattle.std.proofs.Common.{sym, ◌∙◌}
use Rattle.relations.specs.Meaning.{Meaning}
use Rattle.waiver.proofs.Waiving.{marked_narrow, unmarked_narrow}
use Rattle.waiver.proofs.WaiverBank.narrow.Goals as goal

pub returns-then-marked : goal.returns-then-marked
returns-then-marked g c =
    let m : Meaning = g.B.Bank.meaning c.args.self.now.bank in
    marked_narrow c.args.self.now.marks.marked m c.args.k c.args.family.now (sym c.has-marked.ensures ∙ c.if-marked.true)

pub returns : goal.returns
returns g c =
    let m : Meaning = g.B.Bank.meaning c.args.self.now.bank in
    unmarked_narrow c.args.self.now.marks.marked m c.args.k c.args.family.now _ _ (sym c.has-marked.ensures ∙ c.if-marked.false) c.narrow.ensures
