use Rattle.std.proofs.Common.{arith}
use Rattle.journeys.proofs.Putting.{put_narrowed, put_changed, put_same}
use Rattle.journeys.proofs.journey_narrow.Goals as goal

pub returns : goal.returns
returns c = record {
  after = put_narrowed _ _ _ _ _ _ _ _ c.args.period.most (omega arith) c.requires.chain c.zero.ensures c.sweep-changed.ensures;
  other = put_changed _ _ _ _ _ _ _ _ c.args.period.most (omega arith) c.requires.chain c.zero.ensures c.sweep-changed.ensures;
  same = put_same _ _ _ _ _ _ _ _ c.args.period.most (omega arith) c.requires.chain c.zero.ensures c.sweep-changed.ensures;
}
