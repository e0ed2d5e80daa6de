use Rattle.std.proofs.Common.{◌≡◌, ◌*◌, ◌≤◌, List, length, drop, Some, None, sym, ap, ◌∙◌, subst, inl, inr, arith}
use Rattle.std.proofs.lemmas.List.{length-map}
use Rattle.std.proofs.lemmas.Result.{err_from_is_err_and}
use Rattle.refusals.specs.declared.Refusal.TheVariants.{Short}
use Rattle.relations.specs.Meaning.{Meaning}
use Rattle.calls.specs.Calls.{Call, unless_refused}
use Rattle.calls.specs.Replies.{reply}
use Rattle.plan.specs.Contents.{make_refusal, fresh}
use Rattle.plan.specs.Decided.{Made}
use Rattle.runs.specs.Requests.{call_of, calls_of, replay_refusal}
use Rattle.runs.specs.Law.{RightReplies}
use Rattle.runs.proofs.Holding.{law_holds, requests_lawful}
use Rattle.runs.proofs.Replaying.{ok_none, err_some, ranges, refused_make, refused_short, long_enough, not_refused, wiped_lent, unchanged, replayed}
use Rattle.runs.proofs.replays.replay.Goals as goal
use Rattle.runs.proofs.replays.replay.Goals.{then-replies-count-via-then-replies-count, then-replies-count-via-else-replies-count+then-timetables-events}

make_refused : (g : _) (c : goal.After-from_residual g) →
    replay_refusal c.args.period c.args.events (length c.args.requests.now) (length c.args.replies.now) (length c.args.timetables.now) ≡ Some c.in_err-make.field-0.0
make_refused g c =
    let x = make_refusal c.args.period c.args.events in
    refused_make c.args.period c.args.events _ _ _ c.in_err-make.field-0.0 (err_some x c.in_err-make.field-0.0 c.in_err-make.ensures.answer)

pub returns-in_err-make-clause-answer : goal.returns-in_err-make-clause-answer
returns-in_err-make-clause-answer g c =
    let p = err_from_is_err_and c.from_residual.result c.from_residual.ensures.1 in
    rw (p.1, p.2) (ap (λ z. reply z tt) (sym (make_refused g c)))

pub returns-in_err-make-clause-run : goal.returns-in_err-make-clause-run
returns-in_err-make-clause-run g c = unchanged _ c.args.period c.args.events _ c.args.replies.now c.args.timetables.now c.args.workspace.now _ (make_refused g c)

pub returns-then-replies-count : goal.returns-then-replies-count
returns-then-replies-count g c =
    let f : g.row.B.Denot → Meaning = g.B.Bank.meaning in
    let T = c.args.period in
    let E = c.args.events in
    let cs : List Call = calls_of f E (length c.args.workspace.now) c.args.requests.now in
    let made : make_refusal T E ≡ None = ok_none (make_refusal T E) _ c.in_ok-make.ensures.answer in
    let is : replay_refusal T E (length c.args.requests.now) (length c.args.replies.now) (length c.args.timetables.now) ≡ Some Short =
    refused_short T E _ _ _ made (elim c.then-replies-count.branch [ then-replies-count-via-then-replies-count w ↦ inl w.if-replies-count.true | then-replies-count-via-else-replies-count+then-timetables-events w ↦ inr w.if-timetables-events.true ]) in
    record { answer = ap (λ z. reply z tt) (sym is); run = unchanged _ T E cs c.args.replies.now c.args.timetables.now c.args.workspace.now Short is }

pub run-requires : goal.run-requires
run-requires g c =
    let T = c.args.period in
    let E = c.args.events in
    let q = c.make.new.self.contents in
    let made : make_refusal T E ≡ None = ok_none (make_refusal T E) _ c.in_ok-make.ensures.answer in
    let is : q ≡ fresh T E = c.in_ok-make.ensures.plan ∙ ap (λ z. unless_refused z (fresh T E) c.blank-plan.result.contents) made in
    record {
      new = subst (λ z. Made z c.blank-plan.result.contents q) made c.in_ok-make.ensures.list;
      replies = c.if-replies-count.false;
      timetables = subst (λ z. length c.args.requests.now * z ≤ length c.args.timetables.now) (sym (ap (λ z. z.events) is)) (long_enough T E _ (length c.args.replies.now) _ made c.if-timetables-events.false);
    }

pub returns : goal.returns
returns g c =
    let f : g.row.B.Denot → Meaning = g.B.Bank.meaning in
    let T = c.args.period in
    let E = c.args.events in
    let rs = c.args.requests.now in
    let w = length c.args.workspace.now in
    let cs : List Call = calls_of f E w rs in
    let q = c.make.new.self.contents in
    let made : make_refusal T E ≡ None = ok_none (make_refusal T E) _ c.in_ok-make.ensures.answer in
    let is : q ≡ fresh T E = c.in_ok-make.ensures.plan ∙ ap (λ z. unless_refused z (fresh T E) c.blank-plan.result.contents) made in
    let right : RightReplies T E cs c.run.new.replies c.args.timetables.now c.run.new.timetables =
    subst (λ z. RightReplies z.period z.events (calls_of f z.events w rs) c.run.new.replies c.args.timetables.now c.run.new.timetables) is c.run.ensures.right in
    let many : length cs ≡ length rs = length-map rs (call_of f E w) in
    let long : length cs * E ≤ length c.run.new.timetables =
    subst (λ z. z * E ≤ length c.run.new.timetables) (sym many) (omega (arith, long_enough T E (length rs) (length c.args.replies.now) (length c.args.timetables.now) made c.if-timetables-events.false, c.run.auto.timetables)) in
    let no : replay_refusal T E (length rs) (length c.args.replies.now) (length c.args.timetables.now) ≡ None =
    not_refused T E _ _ _ made c.if-replies-count.false c.if-timetables-events.false in
    let r = ranges T E made in
    let law = law_holds T E r.least r.most r.some r.many cs c.run.new.replies c.args.timetables.now c.run.new.timetables long
    (requests_lawful f g.met.B.Bank.laws E w rs) right in
    record {
      answer = ap (λ z. reply z tt) (sym no);
      run = replayed _ T E cs c.args.replies.now c.args.timetables.now c.args.workspace.now c.run.new.replies c.run.new.timetables c.wipe.new.workspace no law
          (subst (λ n. drop n c.run.new.replies ≡ drop n c.args.replies.now) (sym many) c.run.ensures.others)
          (c.wipe.ensures ∙ wiped_lent c.args.workspace.now c.run.new.workspace c.run.ensures.workspace c.run.auto.workspace);
    }
