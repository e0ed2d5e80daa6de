use Rattle.std.proofs.Common.{sym, ◌∙◌}
use Rattle.relations.specs.Meaning.{Meaning}
use Rattle.pair.proofs.Pairing.{narrow_right}
use Rattle.pair.proofs.PairBank.narrow.Goals as goal

pub returns : goal.returns
returns g c =
    let a : Meaning = g.A.Bank.meaning c.args.self.now.first in
    let b : Meaning = g.B.Bank.meaning c.args.self.now.second in
    narrow_right a b c.args.k _ _ c.size.ensures c.reach.ensures c.args.family.now _ _ _ (sym c.in_limits.ensures ∙ c.if-not-in_limits.false) c.size-first.ensures c.if-k-first.false c.narrow-2.ensures
