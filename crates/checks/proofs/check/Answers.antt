use Rattle.std.proofs.Common.{◌≡◌, true, false, take, Ok, sym, ◌∙◌, rules, tests}
use Rattle.relations.specs.Meaning.{Meaning}
use Rattle.bank.specs.Calls.{answer}
use Rattle.checks.specs.Checked.{checked}
use Rattle.checks.proofs.Checking.{answered, holds_is, size_is, lowest_from, checked_found}
use Rattle.std.proofs.lemmas.Iterator.{first_from_Range}
use Rattle.checks.proofs.check.Goals as goal

found : (g : _) (c : goal.After-find g) → Ok c.find.result ≡ checked (g.B.Bank.meaning c.args.bank.now) c.args.minutes.now
found g c =
    let m : Meaning = g.B.Bank.meaning c.args.bank.now in
    let fit = sym c.is_fit.ensures ∙ c.if-not-is_fit.false in
    let n = size_is m c.args.minutes.now _ _ _ c.size-size.ensures c.period-period.ensures c.reach-reach.ensures fit in
    let below = sym c.all_below.ensures ∙ c.if-not-all_below.false in
    let y = take c.reach-reach.result c.args.minutes.now in
    answered m c.args.minutes.now _ _ _ c.size-size.ensures c.period-period.ensures c.reach-reach.ensures fit _ c.if-minutes-reach.false below
    (lowest_from m.relations y (λ k. answer m k y) c.size-size.result n
    (λ k l. holds_is m c.args.minutes.now _ _ _ c.size-size.ensures c.period-period.ensures c.reach-reach.ensures fit k c.if-minutes-reach.false below l)
    _ (first_from_Range _ _ _ _ (λ k. answer m k y ≡ false) (λ k. answer m k y ≡ true) c.find.ensures.ran
    (λ x q k. search (rules, tests))
    (λ x q k. (search rules, search (rules, tests)))))

pub returns-clause-answer : goal.returns-clause-answer
returns-clause-answer g c = found g c

pub returns-clause-found : goal.returns-clause-found
returns-clause-found g c o q = checked_found (g.B.Bank.meaning c.args.bank.now) c.args.minutes.now o (sym (found g c) ∙ q)
