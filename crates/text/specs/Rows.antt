-- The lines of a text that count, each with its place.
use Rattle.std.specs.Prelude.{◌≡◌, ℕ, ◌+◌, Bool, false, cond, ◌||◌, List, [], ◌∷◌, length, take, drop, ◌==◌}
use Rattle.std.specs.List.{AllByRecursion, list_all}
use Rattle.text.specs.Pieces.{pieces, Division}
use Rattle.text.specs.Fields.{space}

-- a line and its place in the text: the offset of its first byte, counted from 0, and its length
pub record Row : Type 0 where
  pub bytes : List ℕ
  pub place : ℕ × ℕ

-- a line of spaces or of nothing
abbrev pub blank : List ℕ → Bool
blank line = list_all space line

-- a line whose very first byte is #
abbrev pub comment : List ℕ → Bool
comment [] = false
comment (c ∷ cs) = c == 35

abbrev pub passed_over : List ℕ → Bool
passed_over line = blank line || comment line

-- the lines that are not passed over, the first of them beginning at the offset; each line but the last is followed by
-- a byte 10, which its length leaves out
abbrev pub rows_from : ℕ → List (List ℕ) → List Row
rows_from offset [] = []
rows_from offset (l ∷ ls) =
    cond (passed_over l) (rows_from (offset + (length l + 1)) ls)
    (record { bytes = l; place = (offset, length l) } ∷ rows_from (offset + (length l + 1)) ls)

-- byte 10 ends a line, and the last line may lack it
abbrev pub rows : List ℕ → List Row
rows text = rows_from 0 (pieces 10 text)

-- a row is the part of the text at its place, and is not passed over
pub record Stands (text : List ℕ) (row : Row) : Type 0 where
  pub part : row.bytes ≡ take row.place.1 (drop row.place.0 text)
  pub counts : passed_over row.bytes ≡ false

-- what is known of a text's lines: joined by bytes 10 they give the text, and each row stands in it
pub record Lined (text : List ℕ) : Type 0 where
  pub division : Division 10 text
  pub stand : AllByRecursion (Stands text) (rows text)
