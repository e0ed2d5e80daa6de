use Rattle.std.proofs.Common.{◌<◌, ◌^◌, ◌∷◌, [], ◌++◌, length, drop, rules, arith, sym, ap, ◌∙◌, subst}
use Rattle.std.specs.List.{All}
use Rattle.std.specs.List.Sorted.{IsNonDecreasing}
use Rattle.std.proofs.lemmas.Grind.{common_steps}
use Rattle.std.proofs.lemmas.List.{length-take-le}
use Rattle.std.proofs.lemmas.List.Elements.{All-take, All-drop}
use Rattle.plan.specs.declared.contents.Entry.{Entry}
use Rattle.plan.specs.declared.contents.Contents.{Contents}
use Rattle.plan.proofs.Going.{shut_on}
use Rattle.plan.proofs.Shaping.{last_low, rise_alone, sets_back}
use Rattle.plan.proofs.Plan.shut.Goals as goal

pub take_back-requires : goal.take_back-requires
take_back-requires c = last_low c.args.self.now.contents.marks.items _ c.args.self.now.marks c.pop.new.self.items c.in-Some.mark c.in-Some.ensures.items

pub invariant_of-self-2-clause-sets : goal.invariant_of-self-2-clause-sets
invariant_of-self-2-clause-sets c =
    let p = c.args.self.now.contents in
    subst (λ (q : Contents). All (λ set. set < 2 ^ q.period) q.allowed) (sym c.take_back.ensures)
    (sets_back (λ set. set < 2 ^ p.period) (drop c.in-Some.mark p.trail.items) p.allowed (All-drop (λ (e : Entry). e.set < 2 ^ p.period) c.in-Some.mark p.trail.items c.args.self.now.cuts) c.args.self.now.sets)

pub invariant_of-self-2-clause-cuts : goal.invariant_of-self-2-clause-cuts
invariant_of-self-2-clause-cuts c =
    let p = c.args.self.now.contents in
    subst (λ (q : Contents). All (λ (e : Entry). e.set < 2 ^ q.period) q.trail.items) (sym c.take_back.ensures) (All-take (λ (e : Entry). e.set < 2 ^ p.period) c.in-Some.mark p.trail.items c.args.self.now.cuts)

pub invariant_of-self-2-clause-marks : goal.invariant_of-self-2-clause-marks
invariant_of-self-2-clause-marks c =
    let p = c.args.self.now.contents in
    let low = last_low p.marks.items _ c.args.self.now.marks c.pop.new.self.items c.in-Some.mark c.in-Some.ensures.items in
    subst (λ (q : Contents). IsNonDecreasing (q.marks.items ++ length q.trail.items ∷ [])) (sym c.take_back.ensures)
    (subst IsNonDecreasing (c.in-Some.ensures.items ∙ ap (λ n. c.pop.new.self.items ++ n ∷ []) (sym (length-take-le c.in-Some.mark p.trail.items low))) (rise_alone p.marks.items _ c.args.self.now.marks))

pub returns-in_default-clause-list : goal.returns-in_default-clause-list
returns-in_default-clause-list c = shut_on _ _ _ (search rules) (search rules)

pub returns-clause-list : goal.returns-clause-list
returns-clause-list c = shut_on _ _ _ (search rules) (grind (arith, common_steps))
