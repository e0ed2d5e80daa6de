-- What a cursor over the pieces of a list of bytes has still to hand out.
use Rattle.std.specs.Prelude.{◌≡◌, ℕ, ◌+◌, ◌≤◌, true, List, [], length, is_some, Some, None, Option, MatchOption}
use Rattle.std.specs.Borrow.{Bor}
use Rattle.std.specs.Iterator.{YieldsFirstRef}
use Rattle.text.specs.Pieces.{pieces}
use Rattle.text.specs.declared.pieces.Pieces.{Pieces}

abbrev pub pieces_of_rest : ℕ → Option (Bor (List ℕ)) → List (List ℕ)
pieces_of_rest sep None = []
pieces_of_rest sep (Some rest) = pieces sep rest.now

abbrev pub pieces_left : Pieces → List (List ℕ)
pieces_left p = pieces_of_rest p.separator p.rest

-- at most so many bytes are still to be looked at, and one more for the piece to come
abbrev pub bytes_of_rest : Option (Bor (List ℕ)) → ℕ
bytes_of_rest None = 0
bytes_of_rest (Some rest) = length rest.now + 1

abbrev pub bytes_left : Pieces → ℕ
bytes_left p = bytes_of_rest p.rest

-- a piece of n bytes was handed out: it was among the bytes left, and those after its separator are left now
pub record HandedOut (before after : Pieces) (n : ℕ) : Type 0 where
  pub some : is_some before.rest ≡ true
  pub less : bytes_left after + (n + 1) ≤ bytes_left before

-- a call of `next` handed out the first of the pieces left, or nothing where none was left, and then changed nothing
abbrev pub YieldsPiece : Pieces → Option (Bor (List ℕ)) → Pieces → Type 0
YieldsPiece before piece after =
    YieldsFirstRef pieces_left before piece after × MatchOption piece (after ≡ before) (λ p. HandedOut before after (length p.now))
