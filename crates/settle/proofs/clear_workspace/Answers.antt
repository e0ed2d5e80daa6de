use Rattle.std.proofs.Common.{◌≡◌, ◌++◌, length, take, drop, replicate, ap, ◌∙◌, arith}
use Rattle.std.proofs.lemmas.List.{length-take}
use Rattle.settle.proofs.clear_workspace.Goals as goal

pub returns : goal.returns
returns c =
    let w = c.args.workspace.now in
    let whole : length (take 4096 w) ≡ 4096 = omega (arith, length-take 4096 w, c.requires) in
    ap (λ z. z ++ drop 4096 w) (c.clear.ensures ∙ ap (λ n. replicate n 0) whole)
