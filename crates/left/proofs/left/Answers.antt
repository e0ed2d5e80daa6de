use Rattle.std.proofs.Common.{◌≡◌, ◌+◌, ◌-◌, true, false, length, Err, eqb, rules, sym, ap, ◌∙◌, subst, arith}
use Rattle.std.proofs.lemmas.Bool.{or_parts, eqb-false}
use Rattle.refusals.specs.declared.Refusal.TheVariants.{Event}
use Rattle.std.proofs.lemmas.Result.{err_from_is_err_and}
use Rattle.rest.specs.Rest.{Left}
use Rattle.calls.specs.Calls.{no_event, bank_unfit}
use Rattle.plan.specs.Contents.{sets_of}
use Rattle.plan.proofs.Refusing.{no_place, a_place}
use Rattle.left.specs.Leaves.{Leaves}
use Rattle.left.proofs.Leaving.{leaves_short, leaves_event, leaves_bank, leaves, all_cleared}
use Rattle.left.proofs.left.Goals as goal

pub returns-then-workspace-lt-WORKSPACE : goal.returns-then-workspace-lt-WORKSPACE
returns-then-workspace-lt-WORKSPACE g c = leaves_short _ _ _ _ c.if-workspace-lt-WORKSPACE.true

pub returns-in_err-place : goal.returns-in_err-place
returns-in_err-place g c =
    let p = c.args.plan.now.contents in
    let w = c.args.workspace.now in
    let m = g.B.Bank.meaning c.args.bank.now in
    let none = no_place (no_event p.events c.args.event) c.in_err-place.field-0.0 (c.args.event - 1) c.in_err-place.ensures.answer in
    let e : c.from_residual.result ≡ Err Event = search (rules, none.1) in
    subst (Leaves p m c.args.event w w) (sym e) (leaves_event p m c.args.event w c.if-workspace-lt-WORKSPACE.false none.0)

pub returns-in_err-bank : goal.returns-in_err-bank
returns-in_err-bank g c =
    let p = c.args.plan.now.contents in
    let m = g.B.Bank.meaning c.args.bank.now in
    let w = c.args.workspace.now in
    let u : bank_unfit p.period p.events m ≡ true = (λ i. bank_unfit (sym c.period.ensures i) (sym c.events.ensures i) m) ∙ c.in_err-bank.ensures.1 in
    let event = (a_place (no_event p.events c.args.event) _ _ c.in_ok-place.ensures.answer).0 in
    let e = err_from_is_err_and c.from_residual-in_err-bank.result c.from_residual-in_err-bank.ensures.1 in
    subst (Leaves p m c.args.event w w) (sym (e.1 ∙ ap Err (e.2 ∙ c.in_err-bank.ensures.0))) (leaves_bank p m c.args.event w c.if-workspace-lt-WORKSPACE.false event u)

pub returns : goal.returns
returns g c =
    let p = c.args.plan.now.contents in
    let e = c.args.event in
    let m = g.B.Bank.meaning c.args.bank.now in
    let w = c.args.workspace.now in
    let u : bank_unfit p.period p.events m ≡ false = (λ i. bank_unfit (sym c.period.ensures i) (sym c.events.ensures i) m) ∙ c.in_ok-bank.ensures.1 in
    let known = a_place (no_event p.events e) (e - 1) c.in_ok-place.place c.in_ok-place.ensures.answer in
    let event = known.0 in
    let f : c.copy_from_slice.new.self ≡ sets_of p = c.copy_from_slice.ensures.after ∙ c.family-allowed.ensures.sets in
    let place : c.in_ok-place.place + 1 ≡ e = omega (arith, known.1, eqb-false e 0 (or_parts (eqb e 0) _ known.0).0) in
    let fit = c.in_ok-bank.bank.bank.now in
    let r = c.left_at-answer.result in
    let found : Left m (sets_of p) e r = subst (λ b. Left (g.B.Bank.meaning b) (sets_of p) e r) c.in_ok-bank.ensures.0
    (subst (λ z. Left (g.B.Bank.meaning fit) z e r) f (subst (λ k. Left (g.B.Bank.meaning fit) c.copy_from_slice.new.self k r) place c.left_at-answer.ensures)) in
    let n = length c.family-allowed.result.now in
    let size : length c.left_at-answer.new.family ≡ n = omega (arith, c.left_at-answer.auto.family, ap length c.copy_from_slice.ensures.after) in
    leaves p m e w c.if-workspace-lt-WORKSPACE.false event u _ _ found
    (c.clear_workspace.ensures ∙ all_cleared w c.left_at-answer.new.family n (omega (arith, c.family-allowed.ensures.len, c.args.plan.now.events)) size)
