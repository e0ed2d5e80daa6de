use Rattle.std.proofs.Common.{◌≡◌, ◌+◌, ◌&&◌, leb}
use Rattle.minutes.specs.Minutes.{at}
use Rattle.relations.specs.ExactNarrowing.{has, those}
use Rattle.journeys.proofs.lengths.kept_set.Given as goal

abbrev pub invariant-loop-m : goal.invariant-loop-m
invariant-loop-m l = l.left ≡ those l.m (λ m. has m l.set && leb (at l.here.lengths m + at l.next.lengths m) l.cap)
