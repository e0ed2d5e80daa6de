use Rattle.std.proofs.Common.{◌≡◌}
use Rattle.text.specs.Cursor.{bytes_left}
use Rattle.text.specs.Handed.{rows_left}
use Rattle.text.proofs.lines.reader.LinesIterator.next.Given as goal

abbrev pub invariant-loop-line : goal.invariant-loop-line
invariant-loop-line l = rows_left l.self ≡ rows_left l.initial.self

abbrev pub decreases-loop-line : goal.decreases-loop-line
decreases-loop-line l = bytes_left l.self.pieces
