-- Each row is the part of its text at its place.
use Rattle.std.proofs.Common.{◌≡◌, ℕ, ◌+◌, Bool, true, false, cond, List, [], ◌∷◌, ◌++◌, length, take, drop, refl, ap, ◌∙◌, subst, append_assoc, append-nil, length-append}
use Rattle.std.specs.List.{AllByRecursion}
use Rattle.text.specs.Pieces.{pieces, joined}
use Rattle.text.specs.Rows.{Row, passed_over, rows_from, Stands, Lined}
use Rattle.text.proofs.Division.{divided}

-- a line that stands after some bytes and before others
part : (before line after : List ℕ) → line ≡ take (length line) (drop (length before) (before ++ (line ++ after)))
part [] [] after = refl
part [] (c ∷ cs) after = ap (λ l. c ∷ l) (part [] cs after)
part (b ∷ bs) line after = part bs line after

one : (text before line after : List ℕ) → before ++ (line ++ after) ≡ text → (rest : List Row) → AllByRecursion (Stands text) rest →
    AllByRecursion (Stands text) (cond (passed_over line) rest (record { bytes = line; place = (length before, length line) } ∷ rest))
one text before line after e rest h = go (passed_over line) refl
  where
    go : (b : Bool) → passed_over line ≡ b → AllByRecursion (Stands text) (cond b rest (record { bytes = line; place = (length before, length line) } ∷ rest))
    go true n = h
    go false n = (record { part = part before line after ∙ ap (λ l. take (length line) (drop (length before) l)) e; counts = n }, h)

stand_from : (text before : List ℕ) (ls : List (List ℕ)) → before ++ joined 10 ls ≡ text → AllByRecursion (Stands text) (rows_from (length before) ls)
stand_from text before [] e = tt
stand_from text before (l ∷ []) e = one text before l [] (ap (λ k. before ++ k) (append-nil l) ∙ e) [] tt
stand_from text before (l ∷ m ∷ ls) e =
    let next : List ℕ = before ++ (l ++ 10 ∷ []) in
    let long : length next ≡ length before + (length l + 1) = simp length-append in
    let same : next ++ joined 10 (m ∷ ls) ≡ text = simp append_assoc e in
    one text before l (10 ∷ joined 10 (m ∷ ls)) e _ (subst (λ n. AllByRecursion (Stands text) (rows_from n (m ∷ ls))) long (stand_from text next (m ∷ ls) same))

pub lined : (text : List ℕ) → Lined text
lined text = record { division = divided 10 text; stand = stand_from text [] (pieces 10 text) (divided 10 text).divides.back }
