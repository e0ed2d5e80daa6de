-- A replay that is refused or done.
use Rattle.std.proofs.Common.{◌≡◌, ℕ, ◌*◌, ◌/◌, ◌<◌, ◌≤◌, ◌||◌, ltb, ◌⊎◌, List, length, drop, Some, None, Ok, Err, Option, sym, refl, ap, ◌∙◌, inl, inr, div-lt_iff_lt-mul, le-div_iff_mul-le, arith}
use Rattle.std.proofs.lemmas.Bool.{cond-true, cond-false, lt-ltb, le-ltb, ltb-false, or_left, or_right, or_from, or_parts, cases_lt}
use Rattle.refusals.specs.declared.Refusal.{Refusal}
use Rattle.refusals.specs.declared.Refusal.TheVariants.{Short, Range}
use Rattle.calls.specs.Calls.{Call, or_else, unless_refused}
use Rattle.calls.specs.Replies.{reply}
use Rattle.settle.specs.Workspace.{cleared}
use Rattle.plan.specs.Contents.{make_refusal}
use Rattle.runs.specs.Requests.{Reply}
use Rattle.runs.specs.Requests.{or_then, replay_refusal, wiped}
use Rattle.runs.specs.Law.{LawOverRuns}
use Rattle.runs.specs.Onward.{Lent}
use Rattle.runs.specs.Replayed.{Replayed}
use Rattle.runs.proofs.Calling.{open_test, some_none}

pub ok_none : (x : Option Refusal) (u : Unit {0}) → Ok u ≡ reply {A = Unit {0}} x tt → x ≡ None
ok_none None u e = refl
ok_none (Some f) u e = let z : ◌≡◌ {A = ℕ} 0 1 = cc in absurd (omega arith)

pub err_some : (x : Option Refusal) (f : Refusal) → Err f ≡ reply {A = Unit {0}} x tt → x ≡ Some f
err_some None f e = let z : ◌≡◌ {A = ℕ} 0 1 = cc in absurd (omega arith)
err_some (Some g) f e = let z : g ≡ f = cc in ap Some z

-- what a plan that could be made has
pub record Ranges (T E : ℕ) : Type 0 where
  pub least : 2 ≤ T
  pub most : T ≤ 64
  pub some : 1 ≤ E
  pub many : E ≤ 256

pub ranges : (T E : ℕ) → make_refusal T E ≡ None → Ranges T E
ranges T E h =
    let a = or_parts (ltb T 2) _ (open_test (ltb T 2 || (ltb 64 T || (ltb E 1 || ltb 256 E))) Range None h) in
    let b = or_parts (ltb 64 T) _ a.1 in
    let c = or_parts (ltb E 1) _ b.1 in
    record { least = ltb-false T 2 a.0; most = ltb-false 64 T b.0; some = ltb-false E 1 c.0; many = ltb-false 256 E c.1 }

module _ (T E n replies timetables : ℕ) where
  pub refused_make : (e : Refusal) → make_refusal T E ≡ Some e → replay_refusal T E n replies timetables ≡ Some e
  refused_make e h = ap (λ z. or_then z (or_else (ltb replies n || ltb timetables (n * E)) Short None)) h

  module _ (made : make_refusal T E ≡ None) where
    then : replay_refusal T E n replies timetables ≡ or_else (ltb replies n || ltb timetables (n * E)) Short None
    then = ap (λ z. or_then z (or_else (ltb replies n || ltb timetables (n * E)) Short None)) made

    pub refused_short : (replies < n) ⊎ (timetables / E < n) → replay_refusal T E n replies timetables ≡ Some Short
    refused_short (inl h) = then ∙ cond-true _ _ _ (or_left (ltb replies n) _ (lt-ltb replies n h))
    refused_short (inr h) =
        let some : 0 < E = omega (arith, (ranges T E made).some) in
        let z : timetables < n * E = (div-lt_iff_lt-mul some).0 h in
        then ∙ cond-true _ _ _ (or_right (ltb replies n) _ (lt-ltb timetables (n * E) z))

    pub long_enough : n ≤ timetables / E → n * E ≤ timetables
    long_enough h = let some : 0 < E = omega (arith, (ranges T E made).some) in (le-div_iff_mul-le some).0 h

    pub not_refused : n ≤ replies → n ≤ timetables / E → replay_refusal T E n replies timetables ≡ None
    not_refused a b = then ∙ cond-false _ _ _ (or_from (ltb replies n) _ (le-ltb replies n a) (le-ltb timetables (n * E) (long_enough b)))

-- what is left of the workspace
pub wiped_lent : (w u : List ℕ) → Lent w u → length u ≡ length w → wiped u ≡ wiped w
wiped_lent w u l e = elim (cases_lt (length w) 4096) [
  | inl h ↦ ap wiped (l.short h)
  | inr h ↦ cond-false (ltb (length u) 4096) u (cleared u) (le-ltb (length u) 4096 (omega arith)) ∙ l.clears ∙ sym (cond-false (ltb (length w) 4096) w (cleared w) (le-ltb (length w) 4096 h))
]

module _ (x : Option Refusal) (T E : ℕ) (cs : List Call) (before : List Reply) (old w : List ℕ) where
  pub unchanged : (e : Refusal) → x ≡ Some e → Replayed x T E cs before before old old w w
  unchanged e is = record {
    law = λ u. absurd (some_none x e is u);
    others = λ u. absurd (some_none x e is u);
    workspace = ap (λ z. unless_refused z (wiped w) w) (sym is);
    kept_replies = λ _ _. refl;
    kept_timetables = λ _ _. refl;
  }

  pub replayed : (replies : List Reply) (new v : List ℕ) → x ≡ None → LawOverRuns T E cs replies old new → drop (length cs) replies ≡ drop (length cs) before → v ≡ wiped w →
      Replayed x T E cs before replies old new w v
  replayed replies new v is law others e = record {
    law = λ _. law;
    others = λ _. others;
    workspace = e ∙ ap (λ z. unless_refused z (wiped w) w) (sym is);
    kept_replies = λ f u. absurd (some_none x f u is);
    kept_timetables = λ f u. absurd (some_none x f u is);
  }
