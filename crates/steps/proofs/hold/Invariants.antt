use Rattle.std.proofs.Common.{◌≡◌, take}
use Rattle.search.specs.Search.{held}
use Rattle.steps.proofs.hold.Given as goal

abbrev pub invariant-loop-i : goal.invariant-loop-i
invariant-loop-i l = l.out ≡ held (take l.i l.prefix.list.now) l.family
