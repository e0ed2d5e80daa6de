use Rattle.std.proofs.Common.{◌≡◌, ◌<◌, ◌⊎◌, true, false, length, take, Err, sym, ap, ◌∙◌, subst, inl, inr, arith}
use Rattle.std.proofs.lemmas.List.{length-take}
use Rattle.std.proofs.lemmas.Result.{err_from_is_err_and}
use Rattle.bank.specs.Calls.{all_below}
use Rattle.calls.specs.Calls.{bank_unfit}
use Rattle.plan.specs.Contents.{sets_of}
use Rattle.plan.proofs.Shaping.{set_below}
use Rattle.left.proofs.Leaving.{all_cleared}
use Rattle.search.specs.Search.{WellPosed, FloorOf}
use Rattle.search.specs.Theorems.{problem}
use Rattle.find.specs.Outcome.{Outcome}
use Rattle.find.proofs.Replying.{Told, told_short, told_range, told_bank, told, plan_posed, plan_floor}
use Rattle.find.proofs.find.Goals as goal

pub returns-then-floor-events : goal.returns-then-floor-events
returns-then-floor-events g c =
    let p = c.args.plan.now.contents in
    let E : length c.family-allowed.result.now ≡ p.events = c.family-allowed.ensures.len in
    let short : (length c.args.floor.now < p.events) ⊎ ((length c.args.timetable.now < p.events) ⊎ (length c.args.workspace.now < 4096)) = elim c.then-floor-events.either [
      | inl h ↦ inl (omega (arith, E, h))
      | inr (inl h) ↦ inr (inl (omega (arith, E, h.1)))
      | inr (inr h) ↦ inr (inr h.2)
    ] in
    let r = told_short p (g.B.Bank.meaning c.args.bank.now) c.args.floor.now c.args.budget c.args.timetable.now c.args.workspace.now short in
    record { answer = r.0; workspace = r.1; list = r.2 }

pub returns-then-not-all_below : goal.returns-then-not-all_below
returns-then-not-all_below g c =
    let p = c.args.plan.now.contents in
    let floor = c.args.floor.now in
    let E : length c.family-allowed.result.now ≡ p.events = c.family-allowed.ensures.len in
    let below : all_below p.period (take p.events floor) ≡ false = (λ i. all_below (sym c.period.ensures i) (take (sym E i) floor)) ∙ sym c.all_below.ensures ∙ c.if-not-all_below.true in
    let r = told_range p (g.B.Bank.meaning c.args.bank.now) floor c.args.budget c.args.timetable.now c.args.workspace.now
    (omega (arith, E, c.if-floor-events.false)) (omega (arith, E, c.if-timetable-events.false)) c.if-workspace-lt-WORKSPACE.false below in
    record { answer = r.0; workspace = r.1; list = r.2 }

pub returns-in_err-bank : goal.returns-in_err-bank
returns-in_err-bank g c =
    let p = c.args.plan.now.contents in
    let m = g.B.Bank.meaning c.args.bank.now in
    let floor = c.args.floor.now in
    let old = c.args.timetable.now in
    let w = c.args.workspace.now in
    let E : length c.family-allowed.result.now ≡ p.events = c.family-allowed.ensures.len in
    let below : all_below p.period (take p.events floor) ≡ true = (λ i. all_below (sym c.period.ensures i) (take (sym E i) floor)) ∙ sym c.all_below.ensures ∙ c.if-not-all_below.false in
    let u : bank_unfit p.period p.events m ≡ true = (λ i. bank_unfit (sym c.period-2.ensures i) (sym c.events.ensures i) m) ∙ c.in_err-bank.ensures.1 in
    let e = err_from_is_err_and c.from_residual.result c.from_residual.ensures.1 in
    let r = subst (Told p m floor c.args.budget old w old w) (sym (e.1 ∙ ap Err (e.2 ∙ c.in_err-bank.ensures.0)))
    (told_bank p m floor c.args.budget old w (omega (arith, E, c.if-floor-events.false)) (omega (arith, E, c.if-timetable-events.false)) c.if-workspace-lt-WORKSPACE.false below u) in
    record { answer = r.0; workspace = r.1; list = r.2 }

pub seek-answer-requires : goal.seek-answer-requires
seek-answer-requires g c =
    let p = c.args.plan.now.contents in
    let v = c.args.plan.now in
    let m = g.B.Bank.meaning c.args.bank.now in
    let fit = c.in_ok-bank.bank.bank.now in
    let floor = c.args.floor.now in
    let E : length c.family-allowed.result.now ≡ p.events = c.family-allowed.ensures.len in
    let below : all_below p.period (take p.events floor) ≡ true = (λ i. all_below (sym c.period.ensures i) (take (sym E i) floor)) ∙ sym c.all_below.ensures ∙ c.if-not-all_below.false in
    let u : bank_unfit p.period p.events m ≡ false = (λ i. bank_unfit (sym c.period-2.ensures i) (sym c.events.ensures i) m) ∙ c.in_ok-bank.ensures.1 in
    let sets : sets_of p ≡ c.family-allowed.result.now = sym c.family-allowed.ensures.sets in
    let is : c.args.bank.now ≡ fit = sym c.in_ok-bank.ensures.0 in
    let len : length (sets_of p) ≡ p.events = ap length sets ∙ E in
    let posed = plan_posed p m u len (g.met.B.Bank.laws c.args.bank.now) v.least v.most v.some v.events (set_below v) in
    let from = plan_floor p m u len floor (omega (arith, E, c.if-floor-events.false)) below in
    record {
      posed = subst (λ b. WellPosed (problem (g.B.Bank.meaning b) c.family-allowed.result.now)) is (subst (λ f. WellPosed (problem m f)) sets posed);
      floor = subst (λ b. FloorOf (problem (g.B.Bank.meaning b) c.family-allowed.result.now) floor) is (subst (λ f. FloorOf (problem m f) floor) sets from);
      timetable = c.if-timetable-events.false;
      workspace = omega (arith, E, v.events, length-take 4096 c.args.workspace.now, c.if-workspace-lt-WORKSPACE.false);
    }

pub returns : goal.returns
returns g c =
    let p = c.args.plan.now.contents in
    let m = g.B.Bank.meaning c.args.bank.now in
    let fit = c.in_ok-bank.bank.bank.now in
    let floor = c.args.floor.now in
    let old = c.args.timetable.now in
    let w = c.args.workspace.now in
    let E : length c.family-allowed.result.now ≡ p.events = c.family-allowed.ensures.len in
    let below : all_below p.period (take p.events floor) ≡ true = (λ i. all_below (sym c.period.ensures i) (take (sym E i) floor)) ∙ sym c.all_below.ensures ∙ c.if-not-all_below.false in
    let u : bank_unfit p.period p.events m ≡ false = (λ i. bank_unfit (sym c.period-2.ensures i) (sym c.events.ensures i) m) ∙ c.in_ok-bank.ensures.1 in
    let new = c.seek-answer.new.timetable in
    let answer = c.seek-answer.result in
    let outcome : Outcome (problem m (sets_of p)) floor c.args.budget old new answer = subst (λ b. Outcome (problem (g.B.Bank.meaning b) (sets_of p)) floor c.args.budget old new answer) c.in_ok-bank.ensures.0
    (subst (λ f. Outcome (problem (g.B.Bank.meaning fit) f) floor c.args.budget old new answer) c.family-allowed.ensures.sets c.seek-answer.ensures) in
    let size : length c.seek-answer.new.workspace ≡ 4096 = omega (arith, c.seek-answer.auto.workspace, length-take 4096 w, c.if-workspace-lt-WORKSPACE.false) in
    let r = told p m floor c.args.budget old w (omega (arith, E, c.if-floor-events.false)) (omega (arith, E, c.if-timetable-events.false)) c.if-workspace-lt-WORKSPACE.false below u
    new c.clear_workspace.new.workspace answer outcome (c.clear_workspace.ensures ∙ all_cleared w c.seek-answer.new.workspace 4096 (omega arith) size) in
    record { answer = r.0; workspace = r.1; list = r.2 }
