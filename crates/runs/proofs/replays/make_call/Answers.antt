use Rattle.std.proofs.Common.{length, refl, ap, ◌∙◌, rules}
use Rattle.calls.specs.Calls.{allow}
use Rattle.plan.specs.Contents.{allowing}
use Rattle.runs.specs.declared.requests.Action.TheVariants.{Allow, Left, Find}
use Rattle.runs.specs.Requests.{of_change, of_left, of_find}
use Rattle.runs.proofs.Calling.{change_on, kept_period, kept_events, allowing_period, allowing_events, left_on, find_on, as_asked, lent_same, lent_by, left_long, find_long}
use Rattle.runs.proofs.replays.make_call.Goals as goal

pub returns-in-Allow : goal.returns-in-Allow
returns-in-Allow g c =
    let p = c.args.plan.now.contents in
    let b = c.args.request.now.bank.now in
    let m = g.B.Bank.meaning b in
    let x = c.args.timetable.now in
    let q = c.allow.new.self.contents in
    record {
      on = as_asked p q m c.args.request.now.floor.now p.events (length c.args.workspace.now) c.args.request.now.action (Allow c.in-Allow.event c.in-Allow.set) x x c.map.result (of_change c.allow.result) c.in-Allow.is (search rules)
          (change_on p (allow c.in-Allow.event c.in-Allow.set) q x c.allow.result (ap (λ z. z.period) c.allow.ensures.plan ∙ kept_period _ p (allowing c.in-Allow.event c.in-Allow.set p) (allowing_period c.in-Allow.event c.in-Allow.set p)) (ap (λ z. z.events) c.allow.ensures.plan ∙ kept_events _ p (allowing c.in-Allow.event c.in-Allow.set p) (allowing_events c.in-Allow.event c.in-Allow.set p)) (λ l s e. (e, refl)) c.allow.ensures.list);
      workspace = lent_same c.args.workspace.now;
    }

pub returns-in-Left : goal.returns-in-Left
returns-in-Left g c =
    let p = c.args.plan.now.contents in
    let b = c.args.request.now.bank.now in
    let m = g.B.Bank.meaning b in
    let x = c.args.timetable.now in
    let w = c.args.workspace.now in
    let e = c.in-Left.event in
    record {
      on = as_asked p p m c.args.request.now.floor.now p.events (length w) c.args.request.now.action (Left e) x x c.map-in-Left.result (of_left c.left.result) c.in-Left.is (search rules)
          (left_on p m e (length w) x c.left.result c.left.ensures.list);
      workspace = lent_by _ w c.left.new.workspace (left_long p.period p.events m e (length w)) c.left.ensures.workspace;
    }

pub returns-in-Find : goal.returns-in-Find
returns-in-Find g c =
    let p = c.args.plan.now.contents in
    let b = c.args.request.now.bank.now in
    let m = g.B.Bank.meaning b in
    let x = c.args.timetable.now in
    let w = c.args.workspace.now in
    let y = c.find.new.timetable in
    let floor = c.args.request.now.floor.now in
    record {
      on = as_asked p p m floor p.events (length w) c.args.request.now.action (Find c.in-Find.budget) x y c.map-in-Find.result (of_find c.find.result) c.in-Find.is (search rules)
          (find_on p m floor c.in-Find.budget (length w) x y c.find.result c.requires c.find.ensures.list);
      workspace = lent_by _ w c.find.new.workspace (find_long p.period p.events m floor (length x) (length w)) c.find.ensures.workspace;
    }
