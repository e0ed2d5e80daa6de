-- The pieces of a list of bytes are the one list of pieces without a separator that gives the bytes back.
use Rattle.std.proofs.Common.{◌≡◌, ℕ, Bool, true, false, cond, ◌||◌, eqb, List, [], ◌∷◌, ◌++◌, sym, refl, ap, ◌∙◌, arith, eq-eqb, eqb-true}
use Rattle.std.proofs.lemmas.Bool.{or_parts}
use Rattle.text.specs.Pieces.{onto, pieces, joined, holds, divisible, Division}

module _ (sep : ℕ) where
  -- one byte more that is no separator
  onto_some : (c : ℕ) (ps : List (List ℕ)) → onto c ps ≡ [] → ⊥
  onto_some c [] e = let z : ◌≡◌ {A = ℕ} 0 1 = cc in absurd (omega arith)
  onto_some c (p ∷ ps) e = let z : ◌≡◌ {A = ℕ} 0 1 = cc in absurd (omega arith)

  onto_whole : (c : ℕ) (ps : List (List ℕ)) → eqb c sep ≡ false → divisible sep ps ≡ false → divisible sep (onto c ps) ≡ false
  onto_whole c [] n e = ap (λ b. (b || false) || false) n
  onto_whole c (p ∷ ps) n e = ap (λ b. (b || holds sep p) || divisible sep ps) n ∙ e

  onto_joined : (c : ℕ) (ps : List (List ℕ)) → joined sep (onto c ps) ≡ c ∷ joined sep ps
  onto_joined c [] = refl
  onto_joined c (p ∷ []) = refl
  onto_joined c (p ∷ q ∷ ps) = refl

  some : (xs : List ℕ) → pieces sep xs ≡ [] → ⊥
  some [] = λ e. (let z : ◌≡◌ {A = ℕ} 0 1 = cc in absurd (omega arith))
  some (x ∷ xs) = go (eqb x sep)
    where
      go : (b : Bool) → cond b ([] ∷ pieces sep xs) (onto x (pieces sep xs)) ≡ [] → ⊥
      go true e = let z : ◌≡◌ {A = ℕ} 0 1 = cc in absurd (omega arith)
      go false e = onto_some x (pieces sep xs) e

  whole : (xs : List ℕ) → divisible sep (pieces sep xs) ≡ false
  whole [] = refl
  whole (x ∷ xs) = go (eqb x sep) refl (whole xs)
    where
      go : (b : Bool) → eqb x sep ≡ b → divisible sep (pieces sep xs) ≡ false → divisible sep (cond b ([] ∷ pieces sep xs) (onto x (pieces sep xs))) ≡ false
      go true e h = h
      go false e h = onto_whole x (pieces sep xs) e h

  before_some : (ps : List (List ℕ)) → (ps ≡ [] → ⊥) → joined sep ([] ∷ ps) ≡ sep ∷ joined sep ps
  before_some [] n = absurd (n refl)
  before_some (p ∷ ps) n = refl

  back : (xs : List ℕ) → joined sep (pieces sep xs) ≡ xs
  back [] = refl
  back (x ∷ xs) = go (eqb x sep) refl (back xs)
    where
      go : (b : Bool) → eqb x sep ≡ b → joined sep (pieces sep xs) ≡ xs → joined sep (cond b ([] ∷ pieces sep xs) (onto x (pieces sep xs))) ≡ x ∷ xs
      go true e h = before_some (pieces sep xs) (some xs) ∙ (λ i. sym (eqb-true x sep e) i ∷ h i)
      go false e h = onto_joined x (pieces sep xs) ∙ ap (λ l. x ∷ l) h

  -- a piece in front of others that are divided again
  in_front : (p : List ℕ) (rest : List ℕ) (ps : List (List ℕ)) → holds sep p ≡ false → pieces sep rest ≡ ps → pieces sep (p ++ sep ∷ rest) ≡ p ∷ ps
  in_front [] rest ps n e = ap (λ b. cond b ([] ∷ pieces sep rest) (onto sep (pieces sep rest))) (eq-eqb sep sep refl) ∙ ap (λ l. [] ∷ l) e
  in_front (c ∷ cs) rest ps n e =
      let t = or_parts (eqb c sep) (holds sep cs) n in
      ap (λ b. cond b ([] ∷ pieces sep (cs ++ sep ∷ rest)) (onto c (pieces sep (cs ++ sep ∷ rest)))) t.0 ∙ ap (onto c) (in_front cs rest ps t.1 e)

  alone : (p : List ℕ) → holds sep p ≡ false → pieces sep p ≡ p ∷ []
  alone [] n = refl
  alone (c ∷ cs) n =
      let t = or_parts (eqb c sep) (holds sep cs) n in
      ap (λ b. cond b ([] ∷ pieces sep cs) (onto c (pieces sep cs))) t.0 ∙ ap (onto c) (alone cs t.1)

  again : (ps : List (List ℕ)) → (ps ≡ [] → ⊥) → divisible sep ps ≡ false → pieces sep (joined sep ps) ≡ ps
  again [] n e = absurd (n refl)
  again (p ∷ []) n e = alone p (or_parts (holds sep p) false e).0
  again (p ∷ q ∷ ps) n e =
      let t = or_parts (holds sep p) (divisible sep (q ∷ ps)) e in
      in_front p (joined sep (q ∷ ps)) (q ∷ ps) t.0 (again (q ∷ ps) (λ z. (let o : ◌≡◌ {A = ℕ} 0 1 = cc in absurd (omega arith))) t.1)

  pub divided : (bytes : List ℕ) → Division sep bytes
  divided bytes = record {
    divides = record { some = some bytes; whole = whole bytes; back = back bytes };
    only = λ ps d. sym (again ps d.some d.whole) ∙ ap (pieces sep) d.back;
  }
