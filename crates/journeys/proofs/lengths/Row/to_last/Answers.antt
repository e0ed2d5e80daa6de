use Rattle.std.proofs.Common.{◌+◌, ◌-◌, min, sym, ap, ◌∙◌, arith}
use Rattle.minutes.specs.Minutes.{at}
use Rattle.minutes.specs.Differences.{gap}
use Rattle.minutes.proofs.Gaps.{gap_up}
use Rattle.journeys.proofs.Leasts.{least_more}
use Rattle.journeys.proofs.lengths.Row.to_last.Goals as goal

pub loop-a-preserved : goal.loop-a-preserved
loop-a-preserved c =
    let T = c.args.period.minutes in
    let F = at c.args.self.now.lengths in
    let a = c.loop-a.a in
    least_more a (λ a. F a + gap T a (T - 1)) c.loop-a.best _ c.loop-a.invariant
    (c.min-best.ensures ∙ ap (λ n. min c.loop-a.best (F a + n)) (sym (gap_up T a (T - 1) (omega arith) (omega arith))))
