use Rattle.std.proofs.Common.{◌≡◌, map, reverse}
use Rattle.plan.specs.Contents.{given_back}
use Rattle.plan.proofs.contents.Contents.take_back.Given as goal

-- the entries so far, from the last down, are put back
abbrev pub invariant-loop-place : goal.invariant-loop-place
invariant-loop-place l = l.self.1.1.1.0 ≡ given_back (reverse (map (λ e. e.now) l.yielded)) l.fn.self.allowed
