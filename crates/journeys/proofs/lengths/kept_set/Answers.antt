use Rattle.std.proofs.Common.{ℕ, ◌+◌, Bool, ◌&&◌, leb, sym, ◌∙◌, arith}
use Rattle.minutes.specs.Minutes.{at}
use Rattle.relations.specs.ExactNarrowing.{has}
use Rattle.journeys.proofs.Gathering.{those_yes, those_no}
use Rattle.journeys.proofs.lengths.kept_set.Goals as goal
use Rattle.journeys.proofs.lengths.kept_set.Goals.{then-within_cap, else-within_cap}

pub loop-m-preserved : goal.loop-m-preserved
loop-m-preserved c =
    let P : ℕ → Bool = λ m. has m c.args.set && leb (at c.args.here.now.lengths m + at c.args.next.now.lengths m) c.args.cap in
    elim c.if-within_cap.branch [
      | then-within_cap w ↦ w.left-is ∙ those_yes c.loop-m.m P c.loop-m.left (omega arith) c.loop-m.invariant (sym c.within_cap.ensures ∙ w.if-within_cap.true)
      | else-within_cap w ↦ w.left-is ∙ those_no c.loop-m.m P c.loop-m.left c.loop-m.invariant (sym c.within_cap.ensures ∙ w.if-within_cap.false)
    ]
