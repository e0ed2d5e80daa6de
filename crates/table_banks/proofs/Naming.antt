-- What the tests of a record say: it names an event, and its events stand where they are looked for.
use Rattle.std.proofs.Common.{◌≡◌, ℕ, ◌≤◌, true, arith}
use Rattle.records.specs.declared.Span.{Span}
use Rattle.relations.specs.Tables.{Chain}
use Rattle.spans.specs.Spans.{span_events, span_in_range, Placed}
use Rattle.spans.proofs.Lawful.{bounds}

pub span_placed : (T n : ℕ) (s : Span) → 1 ≤ T → T ≤ 64 → span_in_range T s ≡ true → Chain n (span_events s) → Placed T s n
span_placed T n s l g h c = record {
  bounds = bounds T s l g h;
  from_low = c.low 0 (omega arith);
  from_high = c.high 0 (omega arith);
  to_low = c.low 1 (omega arith);
  to_high = c.high 1 (omega arith);
  apart = λ e. let z : ◌≡◌ {A = ℕ} 0 1 = c.apart 0 1 (omega arith) (omega arith) e in omega arith;
}
