use Rattle.std.proofs.Common.{rules, arith}
use Rattle.std.proofs.lemmas.Grind.{common_steps}
use Rattle.plan.proofs.Going.{allow_on}
use Rattle.plan.proofs.Shaping.{last_mark, shaped_cut}
use Rattle.plan.proofs.Plan.allow.Goals as goal

pub returns-then-set-whole-clause-list : goal.returns-then-set-whole-clause-list
returns-then-set-whole-clause-list c = allow_on _ _ _ c.args.event c.args.set (last_mark _ _ c.args.self.now.marks 0) (search rules) (search rules)

pub returns-in_err-place-clause-list : goal.returns-in_err-place-clause-list
returns-in_err-place-clause-list c = allow_on _ _ _ c.args.event c.args.set (last_mark _ _ c.args.self.now.marks 0) (search rules) (search rules)

pub invariant_of-self-clause-sets : goal.invariant_of-self-clause-sets
invariant_of-self-clause-sets c = (shaped_cut c.args.self.now c.in_ok-place.place c.args.set _ c.cut.new.self c.cut.ensures.contents).sets

pub invariant_of-self-clause-cuts : goal.invariant_of-self-clause-cuts
invariant_of-self-clause-cuts c = (shaped_cut c.args.self.now c.in_ok-place.place c.args.set _ c.cut.new.self c.cut.ensures.contents).cuts

pub invariant_of-self-clause-marks : goal.invariant_of-self-clause-marks
invariant_of-self-clause-marks c = (shaped_cut c.args.self.now c.in_ok-place.place c.args.set _ c.cut.new.self c.cut.ensures.contents).marks

pub returns-clause-list : goal.returns-clause-list
returns-clause-list c = allow_on _ _ _ c.args.event c.args.set (last_mark _ _ c.args.self.now.marks 0) (grind (arith, common_steps)) (grind (arith, common_steps))
