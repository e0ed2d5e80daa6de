-- A workspace whose first 4,096 numbers are set to 0.
use Rattle.std.proofs.Common.{◌≡◌, ℕ, ◌≤◌, ltb, List, ◌++◌, length, take, drop, replicate, sym, ap, ◌∙◌, arith}
use Rattle.std.proofs.lemmas.Bool.{cond-false, le-ltb}
use Rattle.std.proofs.lemmas.List.{length-take}
use Rattle.settle.specs.Workspace.{cleared}
use Rattle.runs.specs.Requests.{wiped}

pub wiped_long : (w zeros : List ℕ) → 4096 ≤ length w → zeros ≡ replicate (length (take 4096 w)) 0 → zeros ++ drop 4096 w ≡ wiped w
wiped_long w zeros long e =
    let whole : length (take 4096 w) ≡ 4096 = omega (arith, length-take 4096 w) in
    ap (λ z. z ++ drop 4096 w) (e ∙ ap (λ k. replicate k 0) whole) ∙ sym (cond-false (ltb (length w) 4096) w (cleared w) (le-ltb (length w) 4096 long))
