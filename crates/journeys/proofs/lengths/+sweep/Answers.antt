use Rattle.std.proofs.Common.{length, not, ◌||◌, eqb, sym, ap, ◌∙◌, subst, arith}
use Rattle.std.proofs.lemmas.Bool.{or_left}
use Rattle.relations.specs.ExactNarrowing.{of}
use Rattle.relations.specs.Tables.{Chain}
use Rattle.journeys.proofs.Recursion.{swept_none, rest_chain, swept_more}
use Rattle.journeys.proofs.lengths.+sweep.Goals as goal

pub returns-in_default : goal.returns-in_default
returns-in_default t c = swept_none _ _ _ _ _ _ c.args.period.most c.in_default.ensures.cases c.zero.ensures

pub sweep-changed-requires : goal.sweep-changed-requires
sweep-changed-requires t c =
    let s = c.in-Some.ensures.cases in
    (omega arith, rest_chain _ _ _ (subst (Chain (length c.args.family.now)) s.0 (c.requires (omega arith))))

pub returns-then-changed : goal.returns-then-changed
returns-then-changed t c =
    swept_more _ _ _ _ _ _ _ _ _ _ _ _ _ _ c.in-Some.ensures.cases.0 c.requires c.onward-here.ensures c.sweep-changed.ensures c.kept_set-kept.ensures c.to_go.ensures
    (c.if-changed.true ∙ sym (or_left _ _ c.if-changed.true))

pub returns-else-changed : goal.returns-else-changed
returns-else-changed t c =
    swept_more _ _ _ _ _ _ _ _ _ _ _ _ _ _ c.in-Some.ensures.cases.0 c.requires c.onward-here.ensures c.sweep-changed.ensures c.kept_set-kept.ensures c.to_go.ensures
    (ap (λ z. z || not (eqb c.kept_set-kept.result (of c.args.family.now c.in-Some.event.now))) (sym c.if-changed.false))
