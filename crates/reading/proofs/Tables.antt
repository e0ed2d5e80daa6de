-- The tables while the lines of a text are taken: the records so far, and behind them what stood there before.
use Rattle.std.proofs.Common.{◌≡◌, ℕ, ◌+◌, ◌<◌, ◌≤◌, min, Bool, true, false, cond, leb, List, [], ◌∷◌, ◌++◌, length, drop, set, Some, None, Err, Option, sym, refl, ap, ◌∙◌, subst, append_assoc, append-nil, arith, length-append, length-drop, ltb-true}
use Rattle.refusals.specs.declared.Refusal.{Refusal}
use Rattle.refusals.specs.declared.Refusal.TheVariants.{Short, Full}
use Rattle.refusals.specs.declared.Fault.{Fault}
use Rattle.records.specs.declared.Span as spans
use Rattle.records.specs.declared.Journey as journeys
use Rattle.text.specs.declared.kind.Kind.{Kind}
use Rattle.text.specs.declared.kind.Kind.TheVariants as kinds
use Rattle.text.specs.Fields.{kind_of}
use Rattle.text.specs.Rows.{Row, rows}
use Rattle.entries.specs.declared.entry.Entry.{Entry}
use Rattle.entries.specs.declared.entry.Entry.TheVariants.{Span, Journey}
use Rattle.entries.specs.Entries.{before, first_of, heading_refusal, record_tests, entry_by, entry_of}
use Rattle.entries.specs.Form.{nth}
use Rattle.reading.specs.Readings.{Reading, Progress, fault_at, fault_if, full_fault, take_refusal, take_fault, counted, entered, unless, taken, all_taken, earlier, first_fault, begun_if}
use Rattle.reading.specs.Calls.{over, read_unless, begun_read, rows_read, text_read}
use Rattle.reading.specs.Whole.{with_span, spans_in, with_journey, journeys_in, WholeIfRead}

-- a record at the first place behind those entered
placed : {X : Type 0} (t done : List X) (x : X) → length done < length t →
    set (done ++ drop (length done) t) (length done) x ≡ (done ++ x ∷ []) ++ drop (length (done ++ x ∷ [])) t
placed [] done x h = absurd (omega arith)
placed (y ∷ ys) [] x h = refl
placed (y ∷ ys) (d ∷ ds) x h = ap (λ l. d ∷ l) (placed ys ds x (omega arith))

-- with no fault in a list of tests, the last of them does not apply
last_passes : (ts : List (Refusal × Option ℕ)) (t : Refusal × Option ℕ) → first_of (ts ++ t ∷ []) ≡ None → t.1 ≡ None
last_passes [] t e = go t.1 e
  where
    go : (o : Option ℕ) → before t.0 o None ≡ None → o ≡ None
    go None e = refl
    go (Some i) e = let z : ◌≡◌ {A = ℕ} 0 1 = cc in absurd (omega arith)
last_passes (s ∷ ts) t e = go s.1 e (last_passes ts t)
  where
    go : (o : Option ℕ) → before s.0 o (first_of (ts ++ t ∷ [])) ≡ None → (first_of (ts ++ t ∷ []) ≡ None → t.1 ≡ None) → t.1 ≡ None
    go None e h = h e
    go (Some i) e h = let z : ◌≡◌ {A = ℕ} 0 1 = cc in absurd (omega arith)

passes_test : (b : Bool) → cond {A = Option ℕ} b None (Some 0) ≡ None → b ≡ true
passes_test true e = refl
passes_test false e = let z : ◌≡◌ {A = ℕ} 0 1 = cc in absurd (omega arith)

module _ (r : Reading) (n m : ℕ) (row : Row) (none : take_fault r n m row ≡ None) where
  unrefused : take_refusal r n m row.bytes ≡ None
  unrefused = go (take_refusal r n m row.bytes) none
    where
      go : (o : Option (Refusal × ℕ)) → fault_if row.place o ≡ None → o ≡ None
      go None e = refl
      go (Some f) e = let z : ◌≡◌ {A = ℕ} 0 1 = cc in absurd (omega arith)

  not_full : full_fault (kind_of row.bytes) r n m ≡ None
  not_full = last_passes (record_tests r.period r.events row.bytes) (Full, full_fault (kind_of row.bytes) r n m) unrefused

  span_room : kind_of row.bytes ≡ kinds.Span → r.spans < min n 256
  span_room k = ltb-true _ _ (passes_test _ (ap (λ j. full_fault j r n m) (sym k) ∙ not_full))

  journey_room : kind_of row.bytes ≡ kinds.Journey → r.journeys < min m 64
  journey_room k = ltb-true _ _ (passes_test _ (ap (λ j. full_fault j r n m) (sym k) ∙ not_full))

one_longer : {X : Type 0} (xs : List X) (x : X) → length (xs ++ x ∷ []) ≡ length xs + 1
one_longer xs x = simp length-append

-- what is entered joins what was entered before
with_span_first : (e : Option Entry) (ds later : List spans.Span) → (ds ++ with_span e []) ++ later ≡ ds ++ with_span e later
with_span_first None ds later = append_assoc ds [] later
with_span_first (Some (Span s)) ds later = append_assoc ds (s ∷ []) later
with_span_first (Some (Journey j)) ds later = append_assoc ds [] later

with_journey_first : (e : Option Entry) (es later : List journeys.Journey) → (es ++ with_journey e []) ++ later ≡ es ++ with_journey e later
with_journey_first None es later = append_assoc es [] later
with_journey_first (Some (Span s)) es later = append_assoc es [] later
with_journey_first (Some (Journey j)) es later = append_assoc es (j ∷ []) later

entered_counted : (p : Progress) (e : Option Entry) → (entered p e).reading ≡ counted p.reading e
entered_counted p None = refl
entered_counted p (Some (Span s)) = refl
entered_counted p (Some (Journey j)) = refl

both_none : (a b : Option Fault) → earlier a b ≡ None → (a ≡ None) × (b ≡ None)
both_none None b e = (refl, e)
both_none (Some f) b e = let z : ◌≡◌ {A = ℕ} 0 1 = cc in absurd (omega arith)

-- the records entered so far stand first, and behind them the tables are as they were
record Held (t : List spans.Span) (u : List journeys.Journey) (T E : ℕ) (ds : List spans.Span) (es : List journeys.Journey) (p : Progress) : Type 0 where
  spans : p.spans ≡ ds ++ drop (length ds) t
  journeys : p.journeys ≡ es ++ drop (length es) u
  few_spans : length ds ≤ min (length t) 256
  few_journeys : length es ≤ min (length u) 64
  reading : p.reading ≡ record { period = T; events = E; spans = length ds; journeys = length es }

module _ (t : List spans.Span) (u : List journeys.Journey) (T E : ℕ) where
  module _ (ds : List spans.Span) (es : List journeys.Journey) (p : Progress) (held : Held t u T E ds es p) where
    long_spans : length p.spans ≡ length t
    long_spans = ap length held.spans ∙ length-append ds (drop (length ds) t) ∙ omega (arith, length-drop (length ds) t, held.few_spans)

    long_journeys : length p.journeys ≡ length u
    long_journeys = ap length held.journeys ∙ length-append es (drop (length es) u) ∙ omega (arith, length-drop (length es) u, held.few_journeys)

    span_held : (s : spans.Span) → length ds < min (length t) 256 → Held t u T E (ds ++ s ∷ []) es (entered p (Some (Span s)))
    span_held s room = record {
      spans = (λ i. set (held.spans i) (held.reading i).spans s) ∙ placed t ds s (omega arith);
      journeys = held.journeys;
      few_spans = omega (arith, one_longer ds s);
      few_journeys = held.few_journeys;
      reading = ap (λ r. counted r (Some (Span s))) held.reading ∙ (λ i. record { period = T; events = E; spans = sym (one_longer ds s) i; journeys = length es });
    }

    journey_held : (j : journeys.Journey) → length es < min (length u) 64 → Held t u T E ds (es ++ j ∷ []) (entered p (Some (Journey j)))
    journey_held j room = record {
      spans = held.spans;
      journeys = (λ i. set (held.journeys i) (held.reading i).journeys j) ∙ placed u es j (omega arith);
      few_spans = held.few_spans;
      few_journeys = omega (arith, one_longer es j);
      reading = ap (λ r. counted r (Some (Journey j))) held.reading ∙ (λ i. record { period = T; events = E; spans = length ds; journeys = sym (one_longer es j) i });
    }

    entry_held : (row : Row) → take_fault p.reading (length t) (length u) row ≡ None → (k : Kind) → kind_of row.bytes ≡ k →
        Held t u T E (ds ++ with_span (entry_by k row) []) (es ++ with_journey (entry_by k row) []) (entered p (entry_by k row))
    entry_held row none kinds.Heading k =
        subst (λ l. Held t u T E l (es ++ []) p) (sym (append-nil ds)) (subst (λ l. Held t u T E ds l p) (sym (append-nil es)) held)
    entry_held row none kinds.Span k =
        subst (λ l. Held t u T E (ds ++ with_span (entry_by kinds.Span row) []) l (entered p (entry_by kinds.Span row))) (sym (append-nil es))
        (span_held _ (omega (arith, span_room p.reading (length t) (length u) row none k, ap (λ r. r.spans) held.reading)))
    entry_held row none kinds.Journey k =
        subst (λ l. Held t u T E l (es ++ with_journey (entry_by kinds.Journey row) []) (entered p (entry_by kinds.Journey row))) (sym (append-nil ds))
        (journey_held _ (omega (arith, journey_room p.reading (length t) (length u) row none k, ap (λ r. r.journeys) held.reading)))

  all_held : (rest : List Row) (ds : List spans.Span) (es : List journeys.Journey) (p : Progress) → Held t u T E ds es p →
      first_fault p.reading (length t) (length u) rest ≡ None → Held t u T E (ds ++ spans_in rest) (es ++ journeys_in rest) (all_taken p rest)
  all_held [] ds es p held none =
      subst (λ l. Held t u T E l (es ++ []) p) (sym (append-nil ds)) (subst (λ l. Held t u T E ds l p) (sym (append-nil es)) held)
  all_held (row ∷ rest) ds es p held none =
      let e : Option Entry = entry_of row in
      let q : Progress = entered p e in
      let nones = both_none (take_fault p.reading (length t) (length u) row) (first_fault (counted p.reading e) (length t) (length u) rest) none in
      let now_taken : q ≡ taken p row =
      (λ i. unless (sym nones.0 i) q p) ∙ (λ i. unless (take_fault p.reading (sym (long_spans ds es p held) i) (sym (long_journeys ds es p held) i) row) q p) in
      let here : Held t u T E (ds ++ with_span e []) (es ++ with_journey e []) q = entry_held ds es p held row nones.0 (kind_of row.bytes) refl in
      let later : Held t u T E ((ds ++ with_span e []) ++ spans_in rest) ((es ++ with_journey e []) ++ journeys_in rest) (all_taken q rest) =
      all_held rest (ds ++ with_span e []) (es ++ with_journey e []) q here (ap (λ r. first_fault r (length t) (length u) rest) (entered_counted p e) ∙ nones.1) in
      let joined : Held t u T E (ds ++ with_span e (spans_in rest)) (es ++ with_journey e (journeys_in rest)) (all_taken q rest) =
      subst (λ l. Held t u T E l (es ++ with_journey e (journeys_in rest)) (all_taken q rest)) (with_span_first e ds (spans_in rest))
      (subst (λ l. Held t u T E ((ds ++ with_span e []) ++ spans_in rest) l (all_taken q rest)) (with_journey_first e es (journeys_in rest)) later) in
      subst (λ r. Held t u T E (ds ++ with_span e (spans_in rest)) (es ++ with_journey e (journeys_in rest)) (all_taken r rest)) now_taken joined

module _ (t : List spans.Span) (u : List journeys.Journey) (text : List ℕ) where
  after_heading : (row : Row) (rest : List Row) → rows text ≡ row ∷ rest → (r : Reading) →
      r ≡ record { period = nth row.bytes 0; events = nth row.bytes 1; spans = 0; journeys = 0 } →
      (o : Option Fault) → first_fault r (length t) (length u) rest ≡ o → WholeIfRead text t u (read_unless o (all_taken (over t u r) rest))
  after_heading row rest lines r is (Some f) e = tt
  after_heading row rest lines r is None e =
      let held = all_held t u (nth row.bytes 0) (nth row.bytes 1) rest [] [] (over t u r)
      (record { spans = refl; journeys = refl; few_spans = omega arith; few_journeys = omega arith; reading = is }) e in
      record {
        heading = row;
        rest = rest;
        lines = lines;
        spans_held = held.spans;
        journeys_held = held.journeys;
        spans_few = held.few_spans;
        journeys_few = held.few_journeys;
        counted = held.reading;
      }

  from_heading : (row : Row) (rest : List Row) → rows text ≡ row ∷ rest → (o : Option (Refusal × ℕ)) → WholeIfRead text t u (begun_read t u rest (begun_if row o))
  from_heading row rest lines None = after_heading row rest lines _ refl _ refl
  from_heading row rest lines (Some f) = tt

  from_rows : (ls : List Row) → rows text ≡ ls → WholeIfRead text t u (rows_read t u ls)
  from_rows [] e = tt
  from_rows (row ∷ rest) e = from_heading row rest e (heading_refusal row.bytes)

  pub whole_read : WholeIfRead text t u (text_read t u text)
  whole_read = go (leb (length text) 60000)
    where
      go : (b : Bool) → WholeIfRead text t u (cond b (rows_read t u (rows text)) (Err (fault_at (0, 0) (Short, 0))))
      go true = from_rows (rows text) refl
      go false = tt
