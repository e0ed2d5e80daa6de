use Rattle.std.proofs.Common.{◌≡◌, ◌-◌, map, take, drop, sym, ◌∙◌, rules, arith}
use Rattle.std.proofs.lemmas.Grind.{common_steps}
use Rattle.text.specs.declared.kind.Kind.TheVariants.{Span, Journey}
use Rattle.text.specs.Fields.{kind_of}
use Rattle.entries.specs.Form.{values, value_or_zero}
use Rattle.entries.proofs.Judging.{chain_part}
use Rattle.entries.proofs.heading.Heading.judge.Goals as goal

pub returns-in-Journey : goal.returns-in-Journey
returns-in-Journey c =
    let line = c.args.line.now in
    let n = c.of-n.result in
    let is : kind_of line ≡ Journey = sym c.of-kind.ensures ∙ c.in-Journey.is in
    let chain : map value_or_zero (drop 2 (values line)) ≡ take (n.count - 2) (drop 2 n.values) = chain_part (values line) n (search rules) (search rules) (search rules) in
    search rules

pub returns-in-Span : goal.returns-in-Span
returns-in-Span c =
    let is : kind_of c.args.line.now ≡ Span = sym c.of-kind.ensures ∙ c.in-Span.is in
    let nth = c.of-n.ensures.nth in
    grind (arith, common_steps, is, nth)
