-- What is left of an event of an instance, from what its steps promise.
use Rattle.std.proofs.Common.{◌≡◌, ℕ, List, [], length, Some, None, Ok, Err, Option, Result, sym, subst, arith}
use Rattle.refusals.specs.declared.Refusal.{Refusal}
use Rattle.records.specs.declared.Span.{Span}
use Rattle.records.specs.declared.Journey.{Journey}
use Rattle.relations.specs.Meaning.{Meaning}
use Rattle.rest.specs.Rest.{Left}
use Rattle.calls.specs.Calls.{family, left_refusal, unless_refused}
use Rattle.calls.specs.Replies.{reply, Replies}
use Rattle.settle.specs.Workspace.{cleared}
use Rattle.plan.specs.declared.contents.Contents.{Contents}
use Rattle.plan.specs.Decided.{Decided, Made}
use Rattle.reading.specs.Readings.{Reading}
use Rattle.instance.specs.Joined.{instance_meaning, EventLeft, LeftUnless}

pub event_left : (r : Reading) (spans : List Span) (journeys : List Journey) (event : ℕ) (w w' : List ℕ) (answer : Result ℕ Refusal)
    (T E : ℕ) (m : Meaning) → T ≡ r.period → E ≡ r.events → m ≡ instance_meaning r spans journeys →
    Replies (left_refusal T E m event (length w)) (Left m (family T E []) event) answer →
    w' ≡ unless_refused (left_refusal T E m event (length w)) (cleared w) w → EventLeft r spans journeys event w w' answer
event_left r spans journeys event w w' answer T E m t e k =
    let P : ℕ → ℕ → Meaning → Type 0 = λ T E m.
    Replies (left_refusal T E m event (length w)) (Left m (family T E []) event) answer →
    w' ≡ unless_refused (left_refusal T E m event (length w)) (cleared w) w → EventLeft r spans journeys event w w' answer in
    subst (λ T. P T E m) (sym t) (subst (λ E. P r.period E m) (sym e) (subst (λ m. P r.period r.events m) (sym k) (λ a b. record { reply = a; workspace = b })))

pub left_if : (v : Result (Unit {0}) Refusal) (P : Type 0) (w w' : List ℕ) (answer : Result ℕ Refusal) → v ≡ Ok tt → P → LeftUnless v P w w' answer
left_if (Ok u) P w w' answer e p = p
left_if (Err f) P w w' answer e p = let z : ◌≡◌ {A = ℕ} 0 1 = cc in absurd (omega arith)

-- a plan that was made has had no call, and is new
pub made_none : (o : Option Refusal) (p q : Contents) → ◌≡◌ {A = Result (Unit {0}) Refusal} (reply o tt) (Ok tt) → Made o p q → Decided q []
made_none None p q e h = h
made_none (Some f) p q e h = let z : ◌≡◌ {A = ℕ} 0 1 = cc in absurd (omega arith)

pub made_fresh : (o : Option Refusal) (q new old : Contents) → ◌≡◌ {A = Result (Unit {0}) Refusal} (reply o tt) (Ok tt) → q ≡ unless_refused o new old → q ≡ new
made_fresh None q new old e h = h
made_fresh (Some f) q new old e h = let z : ◌≡◌ {A = ℕ} 0 1 = cc in absurd (omega arith)
