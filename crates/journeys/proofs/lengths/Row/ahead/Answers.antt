use Rattle.std.proofs.Common.{◌≤◌, sym, ap, ◌∙◌, subst, arith}
use Rattle.minutes.specs.Minutes.{at}
use Rattle.journeys.specs.Lengths.{ahead}
use Rattle.journeys.proofs.Leasts.{least_small, row_none, row_more}
use Rattle.journeys.proofs.Scanning.{ahead_step, next_before, last_before}
use Rattle.journeys.proofs.lengths.Row.ahead.Goals as goal

pub loop-b-init : goal.loop-b-init
loop-b-init c = (
  row_none _ 1000 (omega arith),
  c.to_last-best.ensures ∙ ap (ahead c.args.period.minutes (at c.args.self.now.lengths)) (last_before c.args.period.minutes c.args.period.some),
  subst (λ z. z ≤ 1000) (sym c.to_last-best.ensures) (least_small c.args.period.minutes _),
)

pub loop-b-preserved : goal.loop-b-preserved
loop-b-preserved c =
    let T = c.args.period.minutes in
    let F = at c.args.self.now.lengths in
    let b = c.loop-b.b in
    let s = c.args.self.now.small b in
    let e = ahead_step T b c.loop-b.best c.min-best.result F (omega arith) s c.loop-b.invariant.1 c.min-best.ensures in (
      row_more b (ahead T F) c.loop-b.lengths _ (omega arith) c.loop-b.invariant.0 e (omega (arith, c.min-best.ensures, s)),
      e ∙ sym (ap (ahead T F) (next_before T b (omega arith))),
      omega (arith, c.min-best.ensures, s),
    )
