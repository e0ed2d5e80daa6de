-- A plan goes on by one call, accepted or refused.
use Rattle.std.proofs.Common.{◌≡◌, ℕ, ◌-◌, ◌^◌, ◌<◌, ◌≤◌, Bool, true, false, cond, ltb, leb, eqb, List, [], ◌∷◌, ◌++◌, length, Some, None, Option, Result, sym, refl, ap, ◌∙◌, subst, arith}
use Rattle.std.proofs.lemmas.Bool.{or_parts, eqb-false, ltb-false}
use Rattle.refusals.specs.declared.Refusal.{Refusal}
use Rattle.refusals.specs.declared.Refusal.TheVariants.{Range, Event, Level}
use Rattle.minutes.specs.Minutes.{at}
use Rattle.calls.specs.Calls.{Call, allow, open_level, shut_level, Ledger, allowed, is_entry, no_event, allow_refusal, open_refusal, shut_refusal, refusal, done, unless_refused, ledger}
use Rattle.calls.specs.Replies.{reply}
use Rattle.calls.proofs.Lists.{ledger_push}
use Rattle.plan.specs.declared.contents.Contents.{Contents}
use Rattle.plan.specs.Contents.{levels_in, entries_in, fresh, make_refusal, sets_of, allow_refused, noted, allowing, opening, shutting}
use Rattle.plan.specs.Decided.{Shows, Holds, Decided, Onward, GoesOn, Made}
use Rattle.plan.proofs.Holding.{holds_shows, holds_new, holds_open, holds_shut, holds_allowing}
use Rattle.plan.proofs.Refusing.{passed}

-- what the ledger of p's list is, at p's own period and events
abbrev of_list : Contents → List Call → Ledger
of_list p cs = ledger p.period p.events cs

pub shows : (p : Contents) (cs : List Call) → Decided p cs → Shows p (of_list p cs)
shows p cs d = holds_shows (levels_in p) p (of_list p cs) d

still : {A : Type 0} (x : Option Refusal) (l : A) → unless_refused x l l ≡ l
still None l = refl
still (Some e) l = refl

-- a call that changes nothing even where it is accepted, as left and find
pub onward_still : (p : Contents) (c : Call) (cs : List Call) → done p.period p.events (length cs) (of_list p cs) c ≡ of_list p cs → Decided p cs → Decided p (cs ++ c ∷ [])
onward_still p c cs same d =
    let x = refusal p.period p.events (of_list p cs) c in
    subst (λ l. Holds (levels_in p) p l) (sym (ledger_push p.period p.events cs c ∙ ap (λ l. unless_refused x l (of_list p cs)) same ∙ still x (of_list p cs))) d

-- what an accepted call c makes of the contents p: new ones, which hold what c makes of the ledger
record Accepted (p : Contents) (c : Call) (new : Contents) (x : Option Refusal) (cs : List Call) : Type 0 where
  refusal : x ≡ refusal p.period p.events (of_list p cs) c
  holds : x ≡ None → Holds (levels_in new) new (done p.period p.events (length cs) (of_list p cs) c)

-- a refused call stands in the list and changes nothing, and an accepted one changes what stands
module _ (p : Contents) (c : Call) (new : Contents) (same_period : new.period ≡ p.period) (same_events : new.events ≡ p.events) where
  goes_on : (x : Option Refusal) → ((cs : List Call) → Decided p cs → Accepted p c new x cs) → (q : Contents) (r : Result (Unit {0}) Refusal)
      → r ≡ reply x tt → q ≡ unless_refused x new p → GoesOn p c q r
  goes_on x h q r answer plan cs d = subst (λ z. Onward p c z r cs) (sym plan) (record { plan = go x (h cs d); answer = answer ∙ ap (λ z. reply z tt) (h cs d).refusal })
    where
      pushed : (z : Option Refusal) → z ≡ refusal p.period p.events (of_list p cs) c → ledger p.period p.events (cs ++ c ∷ []) ≡ unless_refused z (done p.period p.events (length cs) (of_list p cs) c) (of_list p cs)
      pushed z same = ledger_push p.period p.events cs c ∙ ap (λ z. unless_refused z (done p.period p.events (length cs) (of_list p cs) c) (of_list p cs)) (sym same)

      go : (z : Option Refusal) → Accepted p c new z cs → Decided (unless_refused z new p) (cs ++ c ∷ [])
      go None a = subst (λ l. Holds (levels_in new) new l) (sym ((λ i. ledger (same_period i) (same_events i) (cs ++ c ∷ [])) ∙ pushed None a.refusal)) (a.holds refl)
      go (Some e) a = subst (λ l. Holds (levels_in p) p l) (sym (pushed (Some e) a.refusal)) d

pub made_on : (p q : Contents) (T E : ℕ) → q ≡ unless_refused (make_refusal T E) (fresh T E) p → Made (make_refusal T E) p q
made_on p q T E plan = go (make_refusal T E) refl plan
  where
    go : (x : Option Refusal) → make_refusal T E ≡ x → q ≡ unless_refused x (fresh T E) p → Made x p q
    go None is e =
        let tests = or_parts (ltb T 2) _ (passed _ Range None is).0 in
        let most = (or_parts (ltb E 1) _ (or_parts (ltb 64 T) _ tests.1).1).1 in
        subst (λ z. Decided z []) (sym e) (holds_new T E (ltb-false 256 E most))
    go (Some z) is e = λ cs d. subst (λ z. Decided z cs) (sym e) d

module _ (p q : Contents) (r : Result (Unit {0}) Refusal) where
  pub allow_on : (e s : ℕ) → (0 < levels_in p → at p.marks.items (levels_in p - 1) ≤ entries_in p) → r ≡ reply (allow_refused p e s) tt
      → q ≡ unless_refused (allow_refused p e s) (allowing e s p) p → GoesOn p (allow e s) q r
  allow_on e s mark = goes_on p (allow e s) (allowing e s p) (period entry) (events entry) (allow_refused p e s) accepted q r
    where
      entry : Bool
      entry = is_entry (levels_in p) (at (sets_of p) (e - 1)) s

      period : (b : Bool) → (cond b (noted (e - 1) p) p).period ≡ p.period
      period true = refl
      period false = refl

      events : (b : Bool) → (cond b (noted (e - 1) p) p).events ≡ p.events
      events true = refl
      events false = refl

      accepted : (cs : List Call) → Decided p cs → Accepted p (allow e s) (allowing e s p) (allow_refused p e s) cs
      accepted cs d =
          let h = shows p cs d in record {
            refusal = λ i. allow_refusal p.period p.events (at (h.sets i) (e - 1)) (h.levels i) (h.entries i) e s;
            holds = λ none.
                let known = or_parts (eqb e 0) _ (passed (no_event p.events e) Event _ (passed (leb (2 ^ p.period) s) Range _ none).1).0 in
                subst (λ z. Holds (levels_in (allowing e s p)) (allowing e s p) (allowed (length cs) e s z ∷ of_list p cs)) (λ i. is_entry (h.levels i) (at (h.sets i) (e - 1)) s)
                (holds_allowing p (of_list p cs) (length cs) e s (omega (arith, eqb-false e 0 known.0)) (ltb-false p.events e known.1) mark d);
          }

  pub open_on : r ≡ reply (open_refusal (levels_in p)) tt → q ≡ unless_refused (open_refusal (levels_in p)) (opening p) p → GoesOn p open_level q r
  open_on = goes_on p open_level (opening p) refl refl (open_refusal (levels_in p))
      (λ cs d. record { refusal = ap open_refusal (shows p cs d).levels; holds = λ none. holds_open p _ _ d }) q r

  pub shut_on : r ≡ reply (shut_refusal (levels_in p)) tt → q ≡ unless_refused (shut_refusal (levels_in p)) (shutting p) p → GoesOn p shut_level q r
  shut_on = goes_on p shut_level (shutting p) refl refl (shut_refusal (levels_in p))
      (λ cs d. record {
        refusal = ap shut_refusal (shows p cs d).levels;
        holds = λ none. holds_shut p _ (omega (arith, eqb-false (levels_in p) 0 (passed _ Level None none).0)) d;
      }) q r
