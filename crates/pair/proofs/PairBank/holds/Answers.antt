use Rattle.std.proofs.Common.{sym, ◌∙◌}
use Rattle.relations.specs.Meaning.{Meaning}
use Rattle.pair.proofs.Pairing.{pair_left, pair_right}
use Rattle.pair.proofs.PairBank.holds.Goals as goal

pub returns-then-k-first : goal.returns-then-k-first
returns-then-k-first g c =
    let a : Meaning = g.A.Bank.meaning c.args.self.now.first in
    let b : Meaning = g.B.Bank.meaning c.args.self.now.second in
    pair_left a b c.args.k _ _ c.size.ensures c.reach-reach.ensures c.args.minutes.now _ _ _ c.period.ensures (sym c.in_limits.ensures ∙ c.if-not-in_limits.false) (sym c.all_below.ensures ∙ c.if-not-all_below.false) c.size-first.ensures c.if-k-first.true c.holds.ensures

pub returns : goal.returns
returns g c =
    let a : Meaning = g.A.Bank.meaning c.args.self.now.first in
    let b : Meaning = g.B.Bank.meaning c.args.self.now.second in
    pair_right a b c.args.k _ _ c.size.ensures c.reach-reach.ensures c.args.minutes.now _ _ _ c.period.ensures (sym c.in_limits.ensures ∙ c.if-not-in_limits.false) (sym c.all_below.ensures ∙ c.if-not-all_below.false) c.size-first.ensures c.if-k-first.false c.holds-2.ensures
