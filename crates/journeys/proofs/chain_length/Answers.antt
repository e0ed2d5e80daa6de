use Rattle.std.proofs.Common.{◌≡◌, ◌+◌, ◌-◌, length, map, drop, ap, ◌∙◌, arith}
use Rattle.std.proofs.lemmas.Iterator.{window_more}
use Rattle.std.specs.Slice.Iter.{windows_rest}
use Rattle.minutes.specs.Minutes.{at}
use Rattle.minutes.specs.Differences.{gap}
use Rattle.relations.specs.ExactNarrowing.{of}
use Rattle.relations.specs.Conditions.{legs}
use Rattle.journeys.proofs.Legs.{legs_more, legs_none}
use Rattle.journeys.proofs.chain_length.Goals as goal

pub loop-pair-preserved : goal.loop-pair-preserved
loop-pair-preserved c =
    let T = c.args.period.minutes in
    let x = c.args.minutes.now in
    let chain = c.args.chain.now in
    let i = length chain - length (windows_rest c.loop-pair.pair-iterator) in
    let j = length chain - length (windows_rest c.next.new.self) in
    let inv = c.loop-pair.invariant in
    let h = window_more chain c.loop-pair.pair-iterator c.next.new.self _ _ c.in-Some.is c.next.ensures.steps (omega (arith, inv.0)) inv.1 inv.2 in
    let z : i + 0 ≡ i = omega arith in
    let next : j ≡ i + 1 = omega (arith, h.0, h.2, inv.0, inv.1) in
    let first : at c.in-Some.pair.now 0 ≡ at chain i = h.3 0 0 (omega (arith, inv.0)) ∙ ap (at chain) z in
    let second : at c.in-Some.pair.now 1 ≡ at chain (i + 1) = h.3 1 0 (omega (arith, inv.0)) in
    let leg : c.gap.result ≡ gap T (of x (at chain i)) (of x (at chain (i + 1))) =
    c.gap.ensures.is
    ∙ ap (λ e. gap T (of x e) (of x (at c.in-Some.pair.now 1))) first
    ∙ ap (λ e. gap T (of x (at chain i)) (of x e)) second in
    let more = legs_more T x chain i (omega (arith, h.2, inv.0, inv.1)) in
    let rest : legs T (map (of x) (drop j chain)) ≡ legs T (map (of x) (drop (i + 1) chain)) = ap (λ k. legs T (map (of x) (drop k chain))) next in
    (c.next.ensures.steps.0 ∙ inv.0, omega (arith, h.0, inv.1), h.1, omega (arith, inv.3, leg, more, rest), omega (arith, inv.4, next, c.gap.ensures.below, c.args.period.most))

pub returns : goal.returns
returns c =
    let inv = c.loop-pair.invariant in
    let few = c.in-None.ensures.steps.1.0 in
    let none = legs_none c.args.period.minutes c.args.minutes.now (drop (length c.args.chain.now - length (windows_rest c.loop-pair.pair-iterator)) c.args.chain.now) (omega (arith, few, inv.0, ap length inv.2)) in
    omega (arith, inv.3, none)
