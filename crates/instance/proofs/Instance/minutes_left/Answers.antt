use Rattle.std.proofs.Common.{[], sym, ap, ◌∙◌, arith}
use Rattle.reading.specs.Views.{closed}
use Rattle.instance.proofs.Leaving.{event_left, left_if, made_none, made_fresh}
use Rattle.instance.proofs.Instance.minutes_left.Goals as goal

pub returns : goal.returns
returns c =
    let s = c.args.self.now in
    let good = c.in_ok-bank.ensures in
    let made = sym c.make.ensures.answer ∙ c.in_ok-make.was in
    let decided = made_none _ _ _ made c.make.ensures.list in
    let fresh = made_fresh _ _ _ _ made c.make.ensures.plan in
    left_if _ _ _ _ _ good.0 (left_if _ _ _ _ _ good.1
    (event_left (closed s.reading) s.spans.now s.journeys.now c.args.event c.args.workspace.now c.left.new.workspace c.left.result
    _ _ _ (ap (λ p. p.period) fresh ∙ c.period.ensures) (omega (arith, ap (λ p. p.events) fresh)) good.2
    (c.left.ensures.list [] decided).answer c.left.ensures.workspace))
