use Rattle.std.proofs.Common.{◌+◌, [], ◌∷◌, ◌++◌, map, sym, ap, ◌∙◌, append_assoc}
use Rattle.text.specs.Fields.{number, trimmed}
use Rattle.text.specs.Cursor.{pieces_left}
use Rattle.entries.proofs.Noting.{noted_field}
use Rattle.entries.proofs.numerals.numerals_of.Goals as goal

pub loop-piece-preserved : goal.loop-piece-preserved
loop-piece-preserved c =
    let inv = c.loop-piece.invariant in
    let seen = inv.0 in
    let piece = c.in-Some.piece.now in (
      seen ++ piece ∷ [],
      append_assoc seen (piece ∷ []) (pieces_left c.next.new.self) ∙ ap (λ ps. seen ++ ps) (sym c.in-Some.ensures.steps.0) ∙ inv.1,
      noted_field c.args.first seen piece c.number.result c.note.new.self (c.number.ensures ∙ ap number c.trim.ensures)
          (c.note.ensures c.args.first (map number (map trimmed seen)) inv.2 (ap (λ k. c.args.first + k) inv.2.count)),
    )
