use Rattle.std.proofs.Common.{arith}
use Rattle.walk.proofs.Descending.{stayed, died, lived}
use Rattle.walk.proofs.descend.Goals as goal

pub returns-then-rest-last : goal.returns-then-rest-last
returns-then-rest-last g c = stayed _ _ _ c.requires.short _ (omega (arith, c.requires.some)) c.requires.full (c.args.prefix.low _ (omega (arith, c.requires.some))) c.if-rest-last.true

pub returns-then-narrow_child : goal.returns-then-narrow_child
returns-then-narrow_child g c = lived _ _ _ c.requires.short _ _ c.narrow_child.ensures c.if-narrow_child.true _ c.copy_from_slice.ensures.after

pub returns : goal.returns
returns g c = died _ _ _ c.requires.short _ _ c.narrow_child.ensures c.if-narrow_child.false
