use Rattle.std.proofs.Common.{◌≡◌, List, drop, map, reverse, set, sym, ap, ◌∙◌}
use Rattle.std.proofs.lemmas.Iterator.Adapters.{YieldsList-from_rev_slice}
use Rattle.std.proofs.lemmas.Iterator.Consumers.{YieldsList-end}
use Rattle.std.proofs.lemmas.List.{map_push, take_rest, reverse-append, reverse-reverse}
use Rattle.plan.specs.declared.contents.Entry.{Entry}
use Rattle.plan.specs.Contents.{given_back}
use Rattle.plan.proofs.contents.Contents.take_back.Goals as goal

-- one more entry is put back after the others
pub loop-place-preserved : goal.loop-place-preserved
loop-place-preserved c =
    let e = c.in-Some.field-0.now in
    let so_far = c.loop-place.yielded in
    ap (λ f. set f e.place e.set) c.loop-place.invariant
    ∙ ap (λ (es : List Entry). given_back es c.args.self.now.allowed) (sym (ap reverse (map_push (λ x. x.now) so_far c.in-Some.field-0) ∙ reverse-append (map (λ x. x.now) so_far) _))

pub returns : goal.returns
returns c =
    let above = drop c.args.mark c.args.self.now.trail.items in
    let rest : c.into_iter-place-iterator.result.iter.rest.now ≡ above =
    ap (λ z. z.iter.rest.now) c.into_iter-place-iterator.ensures.into_iter_gives ∙ ap (λ z. z.rest.now) c.rev-place-items.ensures.source ∙ c.iter.ensures.rest ∙ take_rest c.deref.result.now c.args.mark ∙ ap (drop c.args.mark) c.deref.ensures.0 in
    let all = YieldsList-end (YieldsList-from_rev_slice above rest) c.loop-place.yielded _ c.loop-place.yielded_by _ _ c.in-None.is c.next.ensures.steps in
    let allowed = c.loop-place.invariant ∙ ap (λ (es : List Entry). given_back es c.args.self.now.allowed) (ap reverse all.0 ∙ reverse-reverse above) in
    λ i. record { period = c.args.self.now.period; events = c.args.self.now.events; allowed = allowed i; marks = c.args.self.now.marks; trail = record { items = c.truncate.ensures.items i } }
