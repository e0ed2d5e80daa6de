-- The fields of a line: their bytes, the number that one writes, and the kind of line that the first decides.
use Rattle.std.specs.Prelude.{ℕ, ◌+◌, ◌-◌, ◌*◌, Bool, cond, ◌&&◌, List, [], ◌∷◌, map, length, take, drop, Some, None, Option, ◌==◌, nat_le}
use Rattle.std.specs.List.{prefix_len, suffix_len}
use Rattle.text.specs.declared.kind.Kind.{Kind}
use Rattle.text.specs.declared.kind.Kind.TheVariants.{Heading, Span, Journey}
use Rattle.text.specs.Pieces.{pieces}

-- byte 32; no other byte counts as a space
abbrev pub space : ℕ → Bool
space c = c == 32

-- without the spaces at the end
abbrev pub trimmed_end : List ℕ → List ℕ
trimmed_end f = take (length f - suffix_len space f) f

-- without the spaces around it
abbrev pub trimmed : List ℕ → List ℕ
trimmed f = trimmed_end (drop (prefix_len space f) f)

-- fields are divided by one semicolon, and the spaces around a field do not count
abbrev pub fields : List ℕ → List (List ℕ)
fields line = map trimmed (pieces 59 line)

-- the number that the digits write after n, or none where one is no digit
abbrev pub digits : ℕ → List ℕ → Option ℕ
digits n [] = Some n
digits n (c ∷ cs) = cond (nat_le 48 c && nat_le c 57) (digits (n * 10 + (c - 48)) cs) None

-- the number that a field of one to five digits writes
abbrev pub number : List ℕ → Option ℕ
number field = cond (nat_le 1 (length field) && nat_le (length field) 5) (digits 0 field) None

-- the kind by the first field: the letter T alone, the letter J alone, or else the index of a span
abbrev pub letter : List ℕ → Kind
letter [] = Span
letter (c ∷ []) = cond (c == 84) Heading (cond (c == 74) Journey Span)
letter (c ∷ d ∷ cs) = Span

abbrev pub kind_by : List (List ℕ) → Kind
kind_by [] = Span
kind_by (first ∷ rest) = letter first

abbrev pub kind_of : List ℕ → Kind
kind_of line = kind_by (fields line)
