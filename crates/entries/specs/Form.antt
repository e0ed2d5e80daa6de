-- The numbers of a line, and whether the line is well formed. Fields are counted from 1, the letter included.
use Rattle.std.specs.Prelude.{ℕ, suc, Bool, cond, ◌&&◌, List, [], ◌∷◌, map, length, Some, None, Option, ◌==◌, nat_le, slice_index_or}
use Rattle.text.specs.declared.kind.Kind.{Kind}
use Rattle.text.specs.declared.kind.Kind.TheVariants.{Heading, Span, Journey}
use Rattle.text.specs.Fields.{fields, number, kind_of}

-- how many fields a line of the kind has: T;period;events, index;from;to;lower;upper;weight, and J;index;cap with two
-- to six events
abbrev pub well_counted : Kind → ℕ → Bool
well_counted Heading n = n == 3
well_counted Span n = n == 6
well_counted Journey n = nat_le 5 n && nat_le n 9

abbrev pub after_letter : List (List ℕ) → List (List ℕ)
after_letter [] = []
after_letter (letter ∷ rest) = rest

-- the fields that are to be numbers: all but the letter
abbrev pub numerals : Kind → List (List ℕ) → List (List ℕ)
numerals Heading fs = after_letter fs
numerals Span fs = fs
numerals Journey fs = after_letter fs

-- which field the first of them is
abbrev pub first_numeral : Kind → ℕ
first_numeral Heading = 2
first_numeral Span = 1
first_numeral Journey = 2

-- what they write, each a number or none
abbrev pub values : List ℕ → List (Option ℕ)
values line = map number (numerals (kind_of line) (fields line))

-- the first that is no number, where the list begins with field i
abbrev pub no_number : ℕ → List (Option ℕ) → Option ℕ
no_number i [] = None
no_number i (None ∷ vs) = Some i
no_number i (Some v ∷ vs) = no_number (suc i) vs

-- the field for which a line is not well formed: 0 where their number is wrong, which is tested first
abbrev pub form_fault : List ℕ → Option ℕ
form_fault line =
    cond (well_counted (kind_of line) (length (fields line))) (no_number (first_numeral (kind_of line)) (values line)) (Some 0)

abbrev pub value_or_zero : Option ℕ → ℕ
value_or_zero None = 0
value_or_zero (Some v) = v

abbrev pub value_at : List (Option ℕ) → ℕ → ℕ
value_at vs i = value_or_zero (slice_index_or vs i None)

-- the i-th number of a line, from 0; a line that is well formed has one at each place below its count
abbrev pub nth : List ℕ → ℕ → ℕ
nth line i = value_at (values line) i
