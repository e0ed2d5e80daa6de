use Rattle.std.proofs.Common.{[], sym, ap, ◌∙◌}
use Rattle.reading.specs.Views.{closed}
use Rattle.instance.proofs.Leaving.{made_none, made_fresh}
use Rattle.solve.proofs.Searching.{searched, searched_if}
use Rattle.solve.proofs.search_of.Goals as goal

pub returns : goal.returns
returns c =
    let s = c.args.instance.now in
    let good = c.in_ok-bank.ensures in
    let made = sym c.make.ensures.answer ∙ c.in_ok-make.was in
    let decided = made_none _ _ _ made c.make.ensures.list in
    let fresh = made_fresh _ _ _ _ made c.make.ensures.plan in
    searched_if _ _ _ good.0 (searched_if _ _ _ good.1
    (searched (closed s.reading) s.spans.now s.journeys.now c.args.timetable.now c.find.new.timetable c.args.workspace.now c.find.new.workspace c.find.result
    _ _ _ (ap (λ p. p.period) fresh ∙ c.period.ensures) (ap (λ p. p.events) fresh ∙ c.events.ensures) good.2
    (c.find.ensures.list [] decided).answer c.find.ensures.workspace))
