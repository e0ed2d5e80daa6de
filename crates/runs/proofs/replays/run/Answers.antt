use Rattle.std.proofs.Common.{◌≡◌, ◌+◌, ◌-◌, ◌*◌, ◌≤◌, List, length, take, drop, sym, ap, ◌∙◌, subst, arith}
use Rattle.std.proofs.lemmas.List.{length-map, get_or-map, length-take, length-drop}
use Rattle.relations.specs.Meaning.{Meaning}
use Rattle.calls.specs.Calls.{Call, open_level}
use Rattle.calls.specs.Standing.{call_at}
use Rattle.runs.specs.Requests.{call_of, calls_of}
use Rattle.runs.specs.Law.{places}
use Rattle.runs.specs.Onward.{GoesOn}
use Rattle.runs.proofs.Running.{running_none, row_fits, ran_by, all_ran}
use Rattle.runs.proofs.replays.run.Goals as goal

pub loop-i-init : goal.loop-i-init
loop-i-init g c = running_none _ _ _ _ _ c.requires.new

pub slice_bounds-timetable-end : goal.slice_bounds-timetable-end
slice_bounds-timetable-end g c =
    let h : c.loop-i.i * c.events-places.result + c.events-places.result ≤ length c.loop-i.timetables =
    row_fits c.loop-i.i (length c.args.requests.now) c.events-places.result c.args.plan.now.contents.events (length c.loop-i.timetables) c.loop-i-test.true c.events-places.ensures (omega (arith, c.requires.timetables, c.loop-i.auto.timetables)) in
    h

pub make_call-requires : goal.make_call-requires
make_call-requires g c =
    let r = c.events-places.result in
    let a = c.loop-i.i * r in
    let h : a + r ≤ length c.loop-i.timetables =
    row_fits c.loop-i.i (length c.args.requests.now) r c.args.plan.now.contents.events (length c.loop-i.timetables) c.loop-i-test.true c.events-places.ensures (omega (arith, c.requires.timetables, c.loop-i.auto.timetables)) in
    let e : r ≡ c.loop-i.plan.contents.events = c.events-places.ensures ∙ sym c.loop-i.invariant.events in
    omega (arith, h, e, length-take (a + r - a) (drop a c.loop-i.timetables), length-drop a c.loop-i.timetables)

pub loop-i-preserved : goal.loop-i-preserved
loop-i-preserved g c =
    let f : g.row.B.Denot → Meaning = g.B.Bank.meaning in
    let p = c.args.plan.now.contents in
    let requests = c.args.requests.now in
    let w = length c.args.workspace.now in
    let cs : List Call = calls_of f p.events w requests in
    let now_p = c.loop-i.plan.contents in
    let r = c.events-places.result in
    let a = c.loop-i.i * r in
    let e : r ≡ p.events = c.events-places.ensures in
    let ea : a ≡ c.loop-i.i * p.events = ap (λ z. c.loop-i.i * z) e in
    let k : a + r - a ≡ p.events = omega (arith, e) in
    let many : length cs ≡ length requests = length-map requests (call_of f p.events w) in
    let request = c.index-requests-i.result in
    let call : call_of f now_p.events (length c.loop-i.workspace) request ≡ call_at cs c.loop-i.i =
    ap (λ z. call_of f z (length c.loop-i.workspace) request) c.loop-i.invariant.events ∙ ap (λ z. call_of f p.events z request) c.loop-i.auto.workspace ∙ ap (call_of f p.events w) c.index-requests-i.is
    ∙ sym (get_or-map (call_of f p.events w) requests c.loop-i.i request open_level c.loop-i-test.true) in
    let old : take (a + r - a) (drop a c.loop-i.timetables) ≡ places p.events c.loop-i.timetables c.loop-i.i =
    ap (λ z. take z (drop a c.loop-i.timetables)) k ∙ ap (λ z. take p.events (drop z c.loop-i.timetables)) ea in
    let on : GoesOn now_p (call_at cs c.loop-i.i) c.make_call.new.plan.contents (places p.events c.loop-i.timetables c.loop-i.i) c.make_call.new.timetable c.make_call.result =
    subst (λ z. GoesOn now_p z c.make_call.new.plan.contents (places p.events c.loop-i.timetables c.loop-i.i) c.make_call.new.timetable c.make_call.result) call
    (subst (λ z. GoesOn now_p (call_of f now_p.events (length c.loop-i.workspace) request) c.make_call.new.plan.contents z c.make_call.new.timetable c.make_call.result) old c.make_call.ensures.on) in
    let fits : a + r ≤ length c.loop-i.timetables =
    row_fits c.loop-i.i (length requests) r p.events (length c.loop-i.timetables) c.loop-i-test.true e (omega (arith, c.requires.timetables, c.loop-i.auto.timetables)) in
    let len : length c.make_call.new.timetable ≡ p.events =
    c.make_call.auto.timetable ∙ (let z : length (take (a + r - a) (drop a c.loop-i.timetables)) ≡ p.events = omega (arith, fits, e, length-take (a + r - a) (drop a c.loop-i.timetables), length-drop a c.loop-i.timetables) in z) in
    ran_by p.period p.events cs c.loop-i.i now_p c.make_call.new.plan.contents c.args.replies.now c.loop-i.replies c.args.timetables.now c.loop-i.timetables
    c.args.workspace.now c.loop-i.workspace c.make_call.new.workspace c.make_call.new.timetable c.make_call.result
    c.loop-i.invariant (omega (arith, many, c.loop-i-test.true)) (omega (arith, many, c.requires.replies, c.loop-i.auto.replies))
    (subst (λ z. z * p.events ≤ length c.loop-i.timetables) (sym many) (omega (arith, c.requires.timetables, c.loop-i.auto.timetables)))
    on c.make_call.ensures.workspace len a (a + r - a) ea k

pub returns : goal.returns
returns g c =
    let f : g.row.B.Denot → Meaning = g.B.Bank.meaning in
    let p = c.args.plan.now.contents in
    let cs = calls_of f p.events (length c.args.workspace.now) c.args.requests.now in
    let e : c.loop-i.i ≡ length c.args.requests.now = omega (arith, c.loop-i-test.false, c.loop-i.auto.i-end) in
    record {
      right = all_ran p.period p.events cs c.loop-i.i c.loop-i.plan.contents c.args.replies.now c.loop-i.replies c.args.timetables.now c.loop-i.timetables c.args.workspace.now c.loop-i.workspace c.loop-i.invariant
          (e ∙ sym (length-map c.args.requests.now (call_of f p.events (length c.args.workspace.now))));
      others = subst (λ n. drop n c.loop-i.replies ≡ drop n c.args.replies.now) e c.loop-i.invariant.others;
      workspace = c.loop-i.invariant.lent;
    }
