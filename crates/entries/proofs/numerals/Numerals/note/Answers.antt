use Rattle.entries.proofs.Noting.{noted_at, noted_past, noted_bad}
use Rattle.entries.proofs.numerals.Numerals.note.Goals.{in-Some, in-Some+else-self-lt-NUMBERS_MOST, in-None}
use Rattle.entries.proofs.numerals.Numerals.note.Goals as goal

pub returns : goal.returns
returns c = λ i vs noted e. elim c.match-value.branch [
  | in-Some w ↦ rw (w.self-is, w.in-Some.is) (noted_at i vs c.args.self.now noted w.in-Some.value w.if-self-lt-NUMBERS_MOST.true)
  | in-Some+else-self-lt-NUMBERS_MOST w ↦ rw (w.self-is, w.in-Some.is) (noted_past i vs c.args.self.now noted w.in-Some.value w.if-self-lt-NUMBERS_MOST.false)
  | in-None w ↦ rw (w.self-is, w.in-None.is, w.or-self.ensures) (noted_bad i vs c.args.self.now noted c.args.field e)
]
