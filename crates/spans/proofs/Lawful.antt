-- The laws of a table of spans, and where its spans stand.
use Rattle.std.proofs.Common.{◌≡◌, ℕ, ◌<◌, ◌≤◌, true, ltb, leb, List, length, get_or, arith}
use Rattle.std.proofs.lemmas.Bool.{ltb-true, leb-true, and_parts}
use Rattle.records.specs.declared.Span.{Span}
use Rattle.relations.specs.Meaning.{Laws}
use Rattle.relations.specs.Conditions.{span_met}
use Rattle.relations.specs.Tables.{highest, sound}
use Rattle.relations.proofs.Tabling.{chain_at, sound_at, table_lawful}
use Rattle.spans.specs.Spans.{span_events, span_relations, span_in_range, Bounds, Placed}

pub two_events : (T : ℕ) (s : Span) → span_in_range T s ≡ true → 0 < length (span_events s)
two_events T s h = omega arith

pub spans_lawful : (T E : ℕ) (ss : List Span) → sound (span_in_range T) span_events E ss ≡ true →
    Laws (record { period = T; reach = highest span_events ss; relations = span_relations T ss })
spans_lawful T E ss h = table_lawful (span_in_range T) span_events (λ s. span_met T s.lower s.upper) T E ss (two_events T) h

pub bounds : (T : ℕ) (s : Span) → 1 ≤ T → T ≤ 64 → span_in_range T s ≡ true → Bounds T s.lower s.upper
bounds T s l g h =
    let a = and_parts (ltb 0 s.index) _ h in
    let b = and_parts (ltb s.lower T) _ a.1 in
    let c = and_parts (leb s.lower s.upper) _ b.1 in
    record {
      least = l;
      greatest = g;
      lower = ltb-true _ _ b.0;
      upper = leb-true _ _ c.0;
      width = ltb-true _ _ c.1;
    }

-- a span of a sound table stands among n events, for each n that the table's highest event does not pass
pub placed_at : (T E n : ℕ) (ss : List Span) (k : ℕ) (d : Span) → 1 ≤ T → T ≤ 64 → sound (span_in_range T) span_events E ss ≡ true → k < length ss →
    highest span_events ss ≤ n → Placed T (get_or ss k d) n
placed_at T E n ss k d l g h i t =
    let c = chain_at (span_in_range T) span_events (two_events T) E n ss k d h i t in
    record {
      bounds = bounds T (get_or ss k d) l g (sound_at (span_in_range T) span_events E ss k d h i).0;
      from_low = c.low 0 (omega arith);
      from_high = c.high 0 (omega arith);
      to_low = c.low 1 (omega arith);
      to_high = c.high 1 (omega arith);
      apart = λ e. let z : ◌≡◌ {A = ℕ} 0 1 = c.apart 0 1 (omega arith) (omega arith) e in omega arith;
    }
