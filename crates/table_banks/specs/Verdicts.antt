-- What is answered where a bank is made from a table.
use Rattle.std.specs.Prelude.{ℕ, Bool, cond, List, [], ◌∷◌, length, take, Ok, Err, Result, nat_le}
use Rattle.refusals.specs.declared.Refusal.{Refusal}
use Rattle.refusals.specs.declared.Refusal.TheVariants.{Short, Range, Event}
use Rattle.records.specs.declared.Span.{Span}
use Rattle.records.specs.declared.Journey.{Journey}
use Rattle.relations.specs.Tables.{good_events}
use Rattle.spans.specs.Spans.{span_in_range, span_events}
use Rattle.journeys.specs.Journeys.{journey_in_range, journey_events}

-- of one record: Range, then Event
abbrev pub record_verdict : Bool → Bool → Result (Unit {0}) Refusal
record_verdict in_range on_events = cond in_range (cond on_events (Ok tt) (Err Event)) (Err Range)

-- of records one after another: the first refusal that applies
abbrev pub records_verdict : {A : Type 0} → (A → Bool) → (A → Bool) → List A → Result (Unit {0}) Refusal
records_verdict in_range on_events [] = Ok tt
records_verdict in_range on_events (r ∷ rs) =
    cond (in_range r) (cond (on_events r) (records_verdict in_range on_events rs) (Err Event)) (Err Range)

-- of a table: Short where it has fewer than `count` records, else what the first `count` have
abbrev pub table_verdict : {A : Type 0} → (A → Bool) → (A → Bool) → ℕ → List A → Result (Unit {0}) Refusal
table_verdict in_range on_events count table =
    cond (nat_le count (length table)) (records_verdict in_range on_events (take count table)) (Err Short)

-- of a table of spans at period T, of which the events are 1 to E
abbrev pub spans_verdict : ℕ → ℕ → ℕ → List Span → Result (Unit {0}) Refusal
spans_verdict T E = table_verdict (span_in_range T) (λ s. good_events E (span_events s))

-- of a table of journeys
abbrev pub journeys_verdict : ℕ → ℕ → List Journey → Result (Unit {0}) Refusal
journeys_verdict E = table_verdict journey_in_range (λ j. good_events E (journey_events j))
