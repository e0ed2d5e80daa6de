-- From what the calls of a plan return to replies.
use Rattle.std.proofs.Common.{◌≡◌, ℕ, ◌-◌, ◌<◌, Bool, true, false, cond, ◌||◌, ltb, List, ◌++◌, length, drop, replicate, Some, None, Ok, Err, Option, Result, sym, refl, ap, ◌∙◌, subst, arith}
use Rattle.std.proofs.lemmas.Bool.{false≢true, lt-ltb, or_parts}
use Rattle.std.proofs.lemmas.List.{drop_at, length-replicate}
use Rattle.refusals.specs.declared.Refusal.{Refusal}
use Rattle.refusals.specs.declared.Refusal.TheVariants.{Short}
use Rattle.relations.specs.Meaning.{Meaning}
use Rattle.rest.specs.Rest.{Left}
use Rattle.calls.specs.Calls.{Call, left, find, Ledger, family, refusal, ledger, or_else, left_refusal, find_refusal, unless_refused}
use Rattle.calls.specs.Replies.{reply, Replies}
use Rattle.settle.specs.Workspace.{cleared}
use Rattle.plan.specs.declared.contents.Contents.{Contents}
use Rattle.plan.specs.Contents.{noted, allowing}
use Rattle.plan.specs.Decided.{Decided, GoesOn as PlanGoesOn}
use Rattle.left.specs.Leaves.{Onward as LeftOnward}
use Rattle.search.specs.declared.Answer.{Answer}
use Rattle.search.specs.Theorems.{problem}
use Rattle.find.specs.Outcome.{Outcome}
use Rattle.find.specs.Onward.{GoesOn as FindGoesOn}
use Rattle.runs.specs.Requests.{Reply}
use Rattle.runs.specs.declared.requests.Done.TheVariants.{Accepted, Minutes, Answered}
use Rattle.runs.specs.declared.requests.Action.{Action}
use Rattle.runs.specs.Requests.{asked, of_change, of_left, of_find}
use Rattle.runs.specs.Law.{Answers, RightReply}
use Rattle.runs.specs.Onward.{GoesOn, Lent}

-- a result is by the refusal, or by a value
data Came {A : Type 0} (x : Option Refusal) (P : A → Type 0) (r : Result A Refusal) : Type 0 where
  failed : (f : Refusal) → x ≡ Some f → r ≡ Err f → Came x P r
  went : (v : A) → x ≡ None → r ≡ Ok v → P v → Came x P r

came : {A : Type 0} (x : Option Refusal) (P : A → Type 0) (r : Result A Refusal) → Replies x P r → Came x P r
came None P r a = went a.0 refl a.1 a.2
came (Some f) P r e = failed f refl e

came_change : (x : Option Refusal) (r : Result (Unit {0}) Refusal) → r ≡ reply x tt → Came x (λ _. Unit {0}) r
came_change None r e = went tt refl e tt
came_change (Some f) r e = failed f refl e

pub some_none : (x : Option Refusal) (f : Refusal) → x ≡ Some f → x ≡ None → ⊥
some_none x f a b = let z : ◌≡◌ {A = ℕ} 0 1 = cc in omega arith

module _ (T E : ℕ) (l : Ledger) (c : Call) (old new : List ℕ) (r : Reply) where
  right_refused : (f : Refusal) → refusal T E l c ≡ Some f → r ≡ Err f → new ≡ old → RightReply T E l c old new r
  right_refused f is e k = record {
    refused = λ g u. cc;
    refused_only = λ g u. cc;
    kept = λ _ _. k;
    accepted = λ u. absurd (some_none _ f is u);
  }

  pub right_accepted : refusal T E l c ≡ None → ((g : Refusal) → r ≡ Err g → ⊥) → Answers T E l c old new r → RightReply T E l c old new r
  right_accepted is no_refusal h = record {
    refused = λ g u. absurd (some_none _ g u is);
    refused_only = λ g u. absurd (no_refusal g u);
    kept = λ g u. absurd (some_none _ g u is);
    accepted = λ _. h;
  }

-- an allow, an open or a shut
right_change : (T E : ℕ) (l : Ledger) (c : Call) (buffer : List ℕ) (r : Result (Unit {0}) Refusal) →
    ((s : Reply) → s ≡ Ok Accepted → Answers T E l c buffer buffer s) → Came (refusal T E l c) (λ _. Unit {0}) r → RightReply T E l c buffer buffer (of_change r)
right_change T E l c buffer r h (failed f is e) = right_refused T E l c buffer buffer (of_change r) f is (ap of_change e) refl
right_change T E l c buffer r h (went v is e u) =
    let a : of_change r ≡ Ok Accepted = ap of_change e in
    right_accepted T E l c buffer buffer (of_change r) is (λ g b. let z : ◌≡◌ {A = ℕ} 0 1 = cc in omega arith) (h (of_change r) a)

pub change_on : (p : Contents) (c : Call) (q : Contents) (buffer : List ℕ) (r : Result (Unit {0}) Refusal) → q.period ≡ p.period → q.events ≡ p.events →
    ((l : Ledger) (s : Reply) → s ≡ Ok Accepted → Answers p.period p.events l c buffer buffer s) → PlanGoesOn p c q r → GoesOn p c q buffer buffer (of_change r)
change_on p c q buffer r T E h g = record {
  period = T;
  events = E;
  onward = λ cs d.
      record { plan = (g cs d).plan; reply = right_change p.period p.events (ledger p.period p.events cs) c buffer r (h (ledger p.period p.events cs)) (came_change _ r (g cs d).answer) };
}

-- what a change leaves
pub kept_period : (x : Option Refusal) (p q : Contents) → q.period ≡ p.period → (unless_refused x q p).period ≡ p.period
kept_period None p q h = h
kept_period (Some e) p q h = refl

pub kept_events : (x : Option Refusal) (p q : Contents) → q.events ≡ p.events → (unless_refused x q p).events ≡ p.events
kept_events None p q h = h
kept_events (Some e) p q h = refl

noted_period : (b : Bool) (k : ℕ) (p : Contents) → (cond b (noted k p) p).period ≡ p.period
noted_period true k p = refl
noted_period false k p = refl

noted_events : (b : Bool) (k : ℕ) (p : Contents) → (cond b (noted k p) p).events ≡ p.events
noted_events true k p = refl
noted_events false k p = refl

pub allowing_period : (e s : ℕ) (p : Contents) → (allowing e s p).period ≡ p.period
allowing_period e s p = noted_period _ (e - 1) p

pub allowing_events : (e s : ℕ) (p : Contents) → (allowing e s p).events ≡ p.events
allowing_events e s p = noted_events _ (e - 1) p

-- a left
right_left : (T E : ℕ) (l : Ledger) (m : Meaning) (e w : ℕ) (buffer : List ℕ) (r : Result ℕ Refusal) →
    Came (refusal T E l (left m e w)) (Left m (family T E l) e) r → RightReply T E l (left m e w) buffer buffer (of_left r)
right_left T E l m e w buffer r (failed f is q) = right_refused T E l (left m e w) buffer buffer (of_left r) f is (ap of_left q) refl
right_left T E l m e w buffer r (went v is q h) =
    let a : of_left r ≡ Ok (Minutes v) = ap of_left q in
    right_accepted T E l (left m e w) buffer buffer (of_left r) is (λ g b. let z : ◌≡◌ {A = ℕ} 0 1 = cc in omega arith) (v, a, h, refl)

pub left_on : (p : Contents) (m : Meaning) (e w : ℕ) (buffer : List ℕ) (r : Result ℕ Refusal) → ((cs : List Call) → Decided p cs → LeftOnward p m e w r cs) → GoesOn p (left m e w) p buffer buffer (of_left r)
left_on p m e w buffer r g = record {
  period = refl;
  events = refl;
  onward = λ cs d.
      record { plan = (g cs d).plan; reply = right_left p.period p.events (ledger p.period p.events cs) m e w buffer r (came _ _ r (g cs d).answer) };
}

-- a find
right_find : (T E : ℕ) (l : Ledger) (m : Meaning) (floor : List ℕ) (budget n w : ℕ) (old new : List ℕ) (r : Result Answer Refusal) →
    ((f : Refusal) → refusal T E l (find m floor budget n w) ≡ Some f → new ≡ old) →
    Came (refusal T E l (find m floor budget n w)) (Outcome (problem m (family T E l)) floor budget old new) r →
    RightReply T E l (find m floor budget n w) old new (of_find r)
right_find T E l m floor budget n w old new r k (failed f is q) = right_refused T E l (find m floor budget n w) old new (of_find r) f is (ap of_find q) (k f is)
right_find T E l m floor budget n w old new r k (went v is q h) =
    let a : of_find r ≡ Ok (Answered v) = ap of_find q in
    right_accepted T E l (find m floor budget n w) old new (of_find r) is (λ g b. let z : ◌≡◌ {A = ℕ} 0 1 = cc in omega arith) (v, a, h)

find_on_old : (p : Contents) (m : Meaning) (floor : List ℕ) (budget w : ℕ) (old new : List ℕ) (r : Result Answer Refusal) → FindGoesOn p m floor budget old new w r →
    GoesOn p (find m floor budget (length old) w) p old new (of_find r)
find_on_old p m floor budget w old new r g = record {
  period = refl;
  events = refl;
  onward = λ cs d.
      record { plan = (g cs d).plan; reply = right_find p.period p.events (ledger p.period p.events cs) m floor budget (length old) w old new r (g cs d).answer.kept (came _ _ r (g cs d).answer.reply) };
}

pub find_on : (p : Contents) (m : Meaning) (floor : List ℕ) (budget w : ℕ) (old new : List ℕ) (r : Result Answer Refusal) → length old ≡ p.events → FindGoesOn p m floor budget old new w r →
    GoesOn p (find m floor budget p.events w) p old new (of_find r)
find_on p m floor budget w old new r len g = subst (λ n. GoesOn p (find m floor budget n w) p old new (of_find r)) len (find_on_old p m floor budget w old new r g)

-- of what was asked and is replied
pub as_asked : (p q : Contents) (m : Meaning) (floor : List ℕ) (E w : ℕ) (a b : Action) (old new : List ℕ) (r s : Reply) → a ≡ b → r ≡ s →
    GoesOn p (asked m floor E w b) q old new s → GoesOn p (asked m floor E w a) q old new r
as_asked p q m floor E w a b old new r s ea er g =
    subst (λ z. GoesOn p (asked m floor E w z) q old new r) (sym ea) (subst (λ z. GoesOn p (asked m floor E w b) q old new z) (sym er) g)

-- the workspace
pub lent_same : (w : List ℕ) → Lent w w
lent_same w = record { clears = refl; short = λ _. refl }

zeros_again : (n : ℕ) (w : List ℕ) → replicate n 0 ++ drop n (replicate n 0 ++ drop n w) ≡ replicate n 0 ++ drop n w
zeros_again n w = ap (λ z. replicate n 0 ++ z) (drop_at (replicate n 0) (drop n w) n (length-replicate {A = ℕ} n 0))

pub cleared_again : (w : List ℕ) → cleared (cleared w) ≡ cleared w
cleared_again w = zeros_again 4096 w

pub lent_by : (x : Option Refusal) (w new : List ℕ) → (length w < 4096 → x ≡ None → ⊥) → new ≡ unless_refused x (cleared w) w → Lent w new
lent_by None w new h e = record { clears = ap cleared e ∙ cleared_again w; short = λ s. absurd (h s refl) }
lent_by (Some f) w new h e = record { clears = ap cleared e; short = λ _. e }

-- where there is no refusal, no test applies; so a left and a find then have a long workspace
pub open_test : (b : Bool) (e : Refusal) (x : Option Refusal) → or_else b e x ≡ None → b ≡ false
open_test true e x h = absurd (some_none (Some e) e refl h)
open_test false e x h = refl

pub open_rest : (b : Bool) (e : Refusal) (x : Option Refusal) → or_else b e x ≡ None → x ≡ None
open_rest true e x h = absurd (some_none (Some e) e refl h)
open_rest false e x h = h

pub left_long : (T E : ℕ) (m : Meaning) (e w : ℕ) → w < 4096 → left_refusal T E m e w ≡ None → ⊥
left_long T E m e w l h = false≢true (sym (open_test (ltb w 4096) Short _ h) ∙ lt-ltb w 4096 l)

pub find_long : (T E : ℕ) (m : Meaning) (floor : List ℕ) (n w : ℕ) → w < 4096 → find_refusal T E m floor n w ≡ None → ⊥
find_long T E m floor n w l h =
    let a = or_parts (ltb (length floor) E) _ (open_test (ltb (length floor) E || (ltb n E || ltb w 4096)) Short _ h) in
    false≢true (sym (or_parts (ltb n E) _ a.1).1 ∙ lt-ltb w 4096 l)
