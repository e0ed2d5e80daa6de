use Rattle.std.proofs.Common.{◌∙◌}
use Rattle.std.proofs.lemmas.Bool.{eqb-true, not-false}
use Rattle.spans.proofs.Spanning.{from_left_is, to_left_is}
use Rattle.spans.proofs.Writing.{after, first_changed, second_changed, none_changed}
use Rattle.spans.proofs.span_narrow.Goals as goal

pub returns-then-first-from : goal.returns-then-first-from
returns-then-first-from c =
    let b = c.requires.bounds in
    let x = c.left_beside-first.ensures ∙ from_left_is _ _ _ _ _ b.lower b.upper b.width in
    let y = c.left_beside-second.ensures ∙ to_left_is _ _ _ _ _ b.upper in record {
      after = after _ c.args.s c.args.family.now _ _ c.requires x y;
      other = λ _. first_changed _ c.args.s c.args.family.now _ _ c.requires x y c.if-first-from.true;
      same = λ e. absurd (c.if-first-from.true (eqb-true _ _ (not-false _ e)));
    }

pub returns-else-first-from : goal.returns-else-first-from
returns-else-first-from c =
    let b = c.requires.bounds in
    let x = c.left_beside-first.ensures ∙ from_left_is _ _ _ _ _ b.lower b.upper b.width in
    let y = c.left_beside-second.ensures ∙ to_left_is _ _ _ _ _ b.upper in record {
      after = after _ c.args.s c.args.family.now _ _ c.requires x y;
      other = second_changed _ c.args.s c.args.family.now _ _ c.requires x y;
      same = none_changed _ c.args.s c.args.family.now _ _ c.requires x y c.if-first-from.false;
    }
