use Rattle.std.proofs.Common.{Ok, Err, refl, ap}
use Rattle.std.proofs.lemmas.Result.{err_from_is_err_and}
use Rattle.reading.specs.Views.{closed}
use Rattle.solve.proofs.Searching.{solved_ok, solved_err, started}
use Rattle.solve.proofs.solve.Goals as goal

pub returns-in_err-reading : goal.returns-in_err-reading
returns-in_err-reading c =
    let p = err_from_is_err_and c.from_residual.result c.from_residual.ensures.1 in
    rw (p.1, p.2)
    (solved_err c.args.spans.now c.read.new.spans c.args.journeys.now c.read.new.journeys c.args.timetable.now _ c.args.workspace.now _ _ _
    (started c.args.spans.now c.args.journeys.now c.args.text.now _ _ c.if-timetable-lt256.false c.if-workspace-lt4096.false)
    c.in_err-reading.field-0.0 c.in_err-reading.ensures.answer c.in_err-reading.ensures.spans c.in_err-reading.ensures.journeys refl refl)

pub returns-in_err-answer : goal.returns-in_err-answer
returns-in_err-answer c =
    let p = err_from_is_err_and c.from_residual-in_err-answer.result c.from_residual-in_err-answer.ensures.1 in
    rw (p.1, p.2)
    (solved_ok c.args.spans.now c.read.new.spans c.args.journeys.now c.read.new.journeys c.args.timetable.now c.search_of.new.timetable c.args.workspace.now c.search_of.new.workspace _ _
    (started c.args.spans.now c.args.journeys.now c.args.text.now _ _ c.if-timetable-lt256.false c.if-workspace-lt4096.false)
    (closed c.in_ok-reading.reading) c.in_ok-reading.ensures.answer c.in_ok-reading.ensures.spans c.in_ok-reading.ensures.journeys
    (Err c.in_err-answer.field-0.0) c.in_err-answer.ensures _ refl)

pub returns : goal.returns
returns c =
    solved_ok c.args.spans.now c.read.new.spans c.args.journeys.now c.read.new.journeys c.args.timetable.now c.search_of.new.timetable c.args.workspace.now c.search_of.new.workspace _ _
    (started c.args.spans.now c.args.journeys.now c.args.text.now _ _ c.if-timetable-lt256.false c.if-workspace-lt4096.false)
    (closed c.in_ok-reading.reading) c.in_ok-reading.ensures.answer c.in_ok-reading.ensures.spans c.in_ok-reading.ensures.journeys
    (Ok c.in_ok-answer.answer) c.in_ok-answer.ensures _ (ap (λ e. Ok (record { events = e; answer = c.in_ok-answer.answer })) c.events.ensures)
