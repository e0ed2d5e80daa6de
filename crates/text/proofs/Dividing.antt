-- The first piece of a list of bytes, and what is left after it.
use Rattle.std.proofs.Common.{◌≡◌, ℕ, ◌+◌, ◌-◌, ◌<◌, ◌≤◌, ◌==◌, Bool, true, false, cond, not, eqb, List, [], ◌∷◌, length, take, drop, sym, refl, ap, ◌∙◌, subst, add-one, one-add, arith}
use Rattle.std.proofs.lemmas.List.{take_rest}
use Rattle.std.specs.List.{prefix_len, position_or_len}
use Rattle.text.specs.Pieces.{apart, onto, pieces}

onto_first : (c : ℕ) (p : List ℕ) (ps all : List (List ℕ)) → all ≡ p ∷ ps → onto c all ≡ (c ∷ p) ∷ ps
onto_first c p ps all e = ap (onto c) e

-- it ends at a separator
pub pieces_at : (sep : ℕ) (xs : List ℕ) → prefix_len (apart sep) xs < length xs →
    pieces sep xs ≡ take (prefix_len (apart sep) xs) xs ∷ pieces sep (drop (prefix_len (apart sep) xs + 1) xs)
pieces_at sep [] h = absurd (omega arith)
pieces_at sep (x ∷ xs) h =
    let n : ℕ = prefix_len (apart sep) xs in
    let P : Bool → Type 0 = λ b. cond (not b) (1 + n) 0 < length (x ∷ xs) →
    cond b ([] ∷ pieces sep xs) (onto x (pieces sep xs)) ≡ take (cond (not b) (1 + n) 0) (x ∷ xs) ∷ pieces sep (drop (cond (not b) (1 + n) 0 + 1) (x ∷ xs)) in
    (elim (eqb x sep) as P [
      | true ↦ λ _. refl
      | false ↦ λ l. rw (one-add, add-one) (onto_first x _ _ _ (pieces_at sep xs (omega arith) ∙ rw add-one refl))
    ]) h

-- there is no separator
pub pieces_last : (sep : ℕ) (xs : List ℕ) → length xs ≤ prefix_len (apart sep) xs → pieces sep xs ≡ xs ∷ []
pieces_last sep [] h = refl
pieces_last sep (x ∷ xs) h =
    let n : ℕ = prefix_len (apart sep) xs in
    let P : Bool → Type 0 = λ b. length (x ∷ xs) ≤ cond (not b) (1 + n) 0 →
    cond b ([] ∷ pieces sep xs) (onto x (pieces sep xs)) ≡ (x ∷ xs) ∷ [] in
    (elim (eqb x sep) as P [
      | true ↦ λ l. absurd (omega arith)
      | false ↦ λ l. ap (onto x) (pieces_last sep xs (omega arith))
    ]) h

-- the same where the first separator has been found, or found missing
pub cut_at : (sep : ℕ) (xs : List ℕ) (n : ℕ) → position_or_len (λ (c : ℕ). c == sep) xs ≡ n → n < length xs →
    pieces sep xs ≡ take n xs ∷ pieces sep (take (length xs - (n + 1)) (drop (n + 1) xs))
cut_at sep xs n e h =
    subst (λ k. pieces sep xs ≡ take k xs ∷ pieces sep (drop (k + 1) xs)) e (pieces_at sep xs (omega (arith, e)))
    ∙ ap (λ l. take n xs ∷ pieces sep l) (sym (take_rest xs (n + 1)))

pub cut_last : (sep : ℕ) (xs : List ℕ) → position_or_len (λ (c : ℕ). c == sep) xs ≡ length xs → pieces sep xs ≡ xs ∷ []
cut_last sep xs e = pieces_last sep xs (omega (arith, e))

-- one piece more than separators
few_onto : (c : ℕ) (ps : List (List ℕ)) → length (onto c ps) ≤ length ps + 1
few_onto c [] = omega arith
few_onto c (p ∷ ps) = omega arith

pub few_pieces : (sep : ℕ) (xs : List ℕ) → length (pieces sep xs) ≤ length xs + 1
few_pieces sep [] = omega arith
few_pieces sep (x ∷ xs) = go (eqb x sep) (few_pieces sep xs)
  where
    go : (b : Bool) → length (pieces sep xs) ≤ length xs + 1 → length (cond b ([] ∷ pieces sep xs) (onto x (pieces sep xs))) ≤ length (x ∷ xs) + 1
    go true h = omega (arith, h)
    go false h = omega (arith, h, few_onto x (pieces sep xs))
