use Rattle.std.proofs.Common.{◌≡◌, ◌∙◌, sym, arith}
use Rattle.std.proofs.lemmas.Bool.{cond-true, cond-false}
use Rattle.minutes.specs.Minutes.{at}
use Rattle.relations.specs.ExactNarrowing.{has}
use Rattle.journeys.specs.Lengths.{no_way}
use Rattle.journeys.proofs.Leasts.{row_none, row_more}
use Rattle.journeys.proofs.Scanning.{by, by_small}
use Rattle.journeys.proofs.lengths.Row.within.Goals as goal
use Rattle.journeys.proofs.lengths.Row.within.Goals.{then-has, else-has}

pub loop-m-init : goal.loop-m-init
loop-m-init c = row_none _ 1000 (omega arith)

pub loop-m-preserved : goal.loop-m-preserved
loop-m-preserved c =
    let F = at c.args.self.now.lengths in
    let s = c.args.set in
    let n = c.loop-m.m in
    let e : c.if-has.lengths ≡ by s F n = elim c.if-has.branch [
      | then-has w ↦ w.lengths-is ∙ sym (cond-true (has n s) (F n) no_way (sym c.has.ensures ∙ w.if-has.true))
      | else-has w ↦ w.lengths-is ∙ sym (cond-false (has n s) (F n) no_way (sym c.has.ensures ∙ w.if-has.false))
    ] in
    row_more n (by s F) c.loop-m.lengths _ (omega arith) c.loop-m.invariant e (omega (arith, e, by_small s F n (c.args.self.now.small n)))
