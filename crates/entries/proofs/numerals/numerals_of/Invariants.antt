use Rattle.std.proofs.Common.{◌≡◌, ℕ, List, ◌++◌, map}
use Rattle.text.specs.Fields.{number, trimmed}
use Rattle.text.specs.Cursor.{pieces_left}
use Rattle.entries.specs.Noted.{Noted}
use Rattle.entries.proofs.numerals.numerals_of.Given as goal

-- the pieces so far are noted
abbrev pub invariant-loop-piece : goal.invariant-loop-piece
invariant-loop-piece l =
    (seen : List (List ℕ))
    × (seen ++ pieces_left l.piece-iterator ≡ pieces_left l.fn.pieces)
    × Noted l.first (map number (map trimmed seen)) l.numerals
