-- The events of a journey's chain, as a part of the numbers that are noted.
use Rattle.std.proofs.Common.{◌≡◌, ℕ, zero, suc, ◌+◌, ◌-◌, ◌<◌, ◌≤◌, List, [], ◌∷◌, map, length, get_or, take, drop, None, Option, sym, refl, ap, ◌∙◌, arith, length-drop, length-take, get_or-drop, get_or-take, ext_get_or}
use Rattle.std.proofs.lemmas.List.{length-map}
use Rattle.entries.specs.declared.numerals.Numerals.{Numerals}
use Rattle.entries.specs.Form.{value_or_zero, value_at}
use Rattle.entries.specs.Noted.{Noted}

-- the values from the third on
map_value : (vs : List (Option ℕ)) (j : ℕ) → get_or (map value_or_zero vs) j 0 ≡ value_at vs j
map_value [] j = refl
map_value (v ∷ vs) zero = refl
map_value (v ∷ vs) (suc j) = map_value vs j

-- the chain's events, as a part of the numbers
pub chain_part : (vs : List (Option ℕ)) (n : Numerals) → Noted 2 vs n → 4 ≤ n.count → n.count ≤ 8 →
    map value_or_zero (drop 2 vs) ≡ take (n.count - 2) (drop 2 n.values)
chain_part vs n h low high =
    let long : length (take (n.count - 2) (drop 2 n.values)) ≡ n.count - 2 = simp (length-take, length-drop) (omega (arith, h.long)) in
    let all : length (map value_or_zero (drop 2 vs)) ≡ n.count - 2 = length-map (drop 2 vs) value_or_zero ∙ length-drop 2 vs ∙ ap (λ k. k - 2) (sym h.count) in
    ext_get_or 0 _ _ (all ∙ sym long) (λ j l.
    let near : j < n.count - 2 = omega (arith, l, all) in
    map_value (drop 2 vs) j ∙ ap value_or_zero (get_or-drop 2 vs j None) ∙ sym (h.nth (2 + j) (omega (arith, near)))
    ∙ sym (get_or-take (n.count - 2) (drop 2 n.values) j 0 near ∙ get_or-drop 2 n.values j 0))
