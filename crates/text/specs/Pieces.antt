-- A list of bytes divided at a separator: a text into lines at byte 10, a line into fields at the semicolon.
use Rattle.std.specs.Prelude.{◌≡◌, ℕ, Bool, false, cond, not, ◌||◌, List, [], ◌∷◌, ◌++◌, ◌==◌}

-- the byte is no separator
abbrev pub apart : ℕ → ℕ → Bool
apart sep c = not (c == sep)

-- one byte more at the front of the first piece
abbrev pub onto : ℕ → List (List ℕ) → List (List ℕ)
onto c [] = (c ∷ []) ∷ []
onto c (p ∷ ps) = (c ∷ p) ∷ ps

-- what stands between the separators: one piece more than there are separators
abbrev pub pieces : ℕ → List ℕ → List (List ℕ)
pieces sep [] = [] ∷ []
pieces sep (c ∷ cs) = cond (c == sep) ([] ∷ pieces sep cs) (onto c (pieces sep cs))

-- the pieces with a separator between each two of them
abbrev pub joined : ℕ → List (List ℕ) → List ℕ
joined sep [] = []
joined sep (p ∷ []) = p
joined sep (p ∷ q ∷ ps) = p ++ sep ∷ joined sep (q ∷ ps)

-- the byte stands in the list
abbrev pub holds : ℕ → List ℕ → Bool
holds c [] = false
holds c (b ∷ bs) = b == c || holds c bs

-- the separator stands in one of the pieces
abbrev pub divisible : ℕ → List (List ℕ) → Bool
divisible sep [] = false
divisible sep (p ∷ ps) = holds sep p || divisible sep ps

-- at least one piece, none with a separator in it, and joined they give the bytes
pub record Divides (sep : ℕ) (bytes : List ℕ) (ps : List (List ℕ)) : Type 0 where
  pub some : ps ≡ [] → ⊥
  pub whole : divisible sep ps ≡ false
  pub back : joined sep ps ≡ bytes

-- the pieces are the one list that divides the bytes
pub record Division (sep : ℕ) (bytes : List ℕ) : Type 0 where
  pub divides : Divides sep bytes (pieces sep bytes)
  pub only : (ps : List (List ℕ)) → Divides sep bytes ps → ps ≡ pieces sep bytes
