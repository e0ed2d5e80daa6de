-- The legs of a chain, one after another.
use Rattle.std.proofs.Common.{◌≡◌, ℕ, ◌+◌, ◌<◌, ◌≤◌, List, [], ◌∷◌, map, length, drop, sym, refl, ap, ◌∙◌, arith}
use Rattle.std.proofs.lemmas.List.{drop_more}
use Rattle.minutes.specs.Minutes.{at}
use Rattle.relations.specs.ExactNarrowing.{of}
use Rattle.minutes.specs.Differences.{gap}
use Rattle.relations.specs.Conditions.{legs}

pub legs_more : (T : ℕ) (x chain : List ℕ) (i : ℕ) → i + 1 < length chain →
    legs T (map (of x) (drop i chain)) ≡ gap T (of x (at chain i)) (of x (at chain (i + 1))) + legs T (map (of x) (drop (i + 1) chain))
legs_more T x chain i h =
    let a = drop_more chain i 0 (omega arith) in
    let b = drop_more chain (i + 1) 0 h in
    ap (λ z. legs T (map (of x) z)) (a ∙ ap (λ z. at chain i ∷ z) b)
    ∙ ap (λ z. gap T (of x (at chain i)) (of x (at chain (i + 1))) + legs T (map (of x) z)) (sym b)

pub legs_none : (T : ℕ) (x es : List ℕ) → length es ≤ 1 → legs T (map (of x) es) ≡ 0
legs_none T x [] h = refl
legs_none T x (a ∷ []) h = refl
legs_none T x (a ∷ b ∷ es) h = absurd (omega arith)
