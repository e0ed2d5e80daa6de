-- The bytes of the line that a refusal is told by.
use Rattle.std.specs.Prelude.{ℕ, List, ◌++◌, codes, decimal}
use Rattle.refusals.specs.declared.Fault.{Fault}
use Rattle.refusals.specs.Refusals.{number_of}

-- the word, then number, field, offset and length, with single spaces
abbrev pub refused_line : Fault → List ℕ
refused_line f =
    codes "refused " ++ (decimal (number_of f.refusal) ++ (codes " " ++ (decimal f.field ++ (codes " " ++ (decimal f.place.0 ++ (codes " " ++ decimal f.place.1))))))
