-- What the line reader has still to hand out.
use Rattle.std.specs.Prelude.{◌≡◌, List, Ok, Err, Result, Option, MatchOption, ⊤}
use Rattle.std.specs.Iterator.{YieldsFirstBy}
use Rattle.refusals.specs.declared.Refusal.{Refusal}
use Rattle.text.specs.Rows.{Row, rows_from}
use Rattle.text.specs.Cursor.{pieces_left}
use Rattle.text.specs.declared.lines.Lines.{Lines}
use Rattle.text.specs.declared.kind.Line.{Line}
use Rattle.text.specs.Fields.{kind_of}
use Rattle.text.specs.Kinds.{row_of, case_of}

abbrev pub rows_left : Lines → List Row
rows_left l = rows_from l.offset (pieces_left l.pieces)

-- the rows that a reader has been opened with, or the refusal
abbrev pub rows_of_result : Result Lines Refusal → Result (List Row) Refusal
rows_of_result (Ok l) = Ok (rows_left l)
rows_of_result (Err r) = Err r

-- a call of `next` handed out the first of the rows left, as a line of the kind that its bytes decide
abbrev pub YieldsLine : Lines → Option Line → Lines → Type 0
YieldsLine before line after =
    YieldsFirstBy row_of rows_left before line after × MatchOption line ⊤ (λ l. case_of l ≡ kind_of (row_of l).bytes)
