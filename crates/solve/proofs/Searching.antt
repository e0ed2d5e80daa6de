-- The search of an instance, from what its steps promise.
use Rattle.std.proofs.Common.{◌≡◌, ℕ, ◌≤◌, cond, ◌&&◌, List, [], length, Ok, Err, Result, sym, ap, ◌∙◌, subst, arith, le-leb}
use Rattle.refusals.specs.declared.Refusal.{Refusal}
use Rattle.records.specs.declared.Span.{Span}
use Rattle.records.specs.declared.Journey.{Journey}
use Rattle.relations.specs.Meaning.{Meaning}
use Rattle.calls.specs.Calls.{family, find_refusal, unless_refused}
use Rattle.settle.specs.Workspace.{cleared}
use Rattle.refusals.specs.declared.Refusal.TheVariants.{Short}
use Rattle.refusals.specs.declared.Fault.{Fault}
use Rattle.reading.specs.Readings.{Reading, Progress, fault_at}
use Rattle.reading.specs.Calls.{text_read, read_answer, spans_then, journeys_then}
use Rattle.instance.specs.Joined.{instance_meaning}
use Rattle.search.specs.declared.Answer.{Answer}
use Rattle.search.specs.Theorems.{problem}
use Rattle.find.specs.Outcome.{Replied}
use Rattle.solve.specs.Solved.{zeros, Searched, SearchedIf, SearchOf, told, SolvedIf, start}
use Rattle.solve.specs.declared.Solution.{Solution}

pub searched : (r : Reading) (spans : List Span) (journeys : List Journey) (old new w w' : List ℕ) (answer : Result Answer Refusal)
    (T E : ℕ) (m : Meaning) → T ≡ r.period → E ≡ r.events → m ≡ instance_meaning r spans journeys →
    Replied (find_refusal T E m zeros (length old) (length w)) (problem m (family T E [])) zeros 1000000 old new answer →
    w' ≡ unless_refused (find_refusal T E m zeros (length old) (length w)) (cleared w) w →
    Searched r spans journeys old new w w' answer
searched r spans journeys old new w w' answer T E m t e k =
    let P : ℕ → ℕ → Meaning → Type 0 = λ T E m.
    Replied (find_refusal T E m zeros (length old) (length w)) (problem m (family T E [])) zeros 1000000 old new answer →
    w' ≡ unless_refused (find_refusal T E m zeros (length old) (length w)) (cleared w) w → Searched r spans journeys old new w w' answer in
    subst (λ T. P T E m) (sym t) (subst (λ E. P r.period E m) (sym e) (subst (λ m. P r.period r.events m) (sym k) (λ a b. record { reply = a; workspace = b })))

pub searched_if : (v : Result (Unit {0}) Refusal) (P : Type 0) (Q : Refusal → Type 0) → v ≡ Ok tt → P → SearchedIf v P Q
searched_if (Ok u) P Q e p = p
searched_if (Err f) P Q e p = let z : ◌≡◌ {A = ℕ} 0 1 = cc in absurd (omega arith)

module _ (s s' : List Span) (j j' : List Journey) (t t' w w' : List ℕ) where
  -- a text that was read, and searched
  pub solved_ok : (o st : Result Progress Fault) → st ≡ o → (r : Reading) → ◌≡◌ {A = Result Reading Fault} (Ok r) (read_answer o) →
      s' ≡ spans_then s o → j' ≡ journeys_then j o → (a : Result Answer Refusal) → SearchOf r s' j' t t' w w' a →
      (res : Result Solution Fault) → res ≡ told r.events a → SolvedIf st s s' j j' t t' w w' res
  solved_ok (Ok p) st e r is hs hj a search res tells =
      let same : r ≡ p.reading = cc in
      subst (λ x. SolvedIf x s s' j j' t t' w w' res) (sym e) (record {
        spans_held = hs;
        journeys_held = hj;
        answer = a;
        search = subst (λ x. SearchOf x p.spans p.journeys t t' w w' a) same (subst (λ x. SearchOf r x p.journeys t t' w w' a) hs (subst (λ x. SearchOf r s' x t t' w w' a) hj search));
        tells = tells ∙ ap (λ x. told x.events a) same;
      })
  solved_ok (Err f) st e r is hs hj a search res tells = let z : ◌≡◌ {A = ℕ} 0 1 = cc in absurd (omega arith)

  -- a text that was not
  pub solved_err : (o st : Result Progress Fault) → st ≡ o → (f : Fault) → ◌≡◌ {A = Result Reading Fault} (Err f) (read_answer o) →
      s' ≡ spans_then s o → j' ≡ journeys_then j o → t' ≡ t → w' ≡ w → SolvedIf st s s' j j' t t' w w' (Err f)
  solved_err (Ok p) st e f is hs hj ht hw = let z : ◌≡◌ {A = ℕ} 0 1 = cc in absurd (omega arith)
  solved_err (Err g) st e f is hs hj ht hw =
      subst (λ x. SolvedIf x s s' j j' t t' w w' (Err f)) (sym e) (record { tells = cc; spans_kept = hs; journeys_kept = hj; buffer = ht; workspace = hw })

-- long enough buffers
pub started : (s : List Span) (j : List Journey) (text : List ℕ) (t w : ℕ) → 256 ≤ t → 4096 ≤ w → start s j text t w ≡ text_read s j text
started s j text t w a b = λ i. cond (le-leb 256 t a i && le-leb 4096 w b i) (text_read s j text) (Err (fault_at (0, 0) (Short, 0)))
