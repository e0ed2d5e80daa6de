-- A find that is refused or answers.
use Rattle.std.proofs.Common.{◌≡◌, ℕ, ◌^◌, ◌<◌, ◌≤◌, Bool, true, false, not, ◌||◌, eqb, ltb, ◌⊎◌, List, length, take, is_some, Some, None, Ok, Err, Option, Result, sym, refl, ap, ◌∙◌, subst, inl, inr, arith}
use Rattle.std.proofs.lemmas.Bool.{cond-true, cond-false, lt-ltb, le-ltb, or_left, or_right, or_from, or_parts, eqb-true, not-false, cases_lt, false≢true}
use Rattle.std.proofs.lemmas.List.{get_or-take, get_or_past}
use Rattle.refusals.specs.declared.Refusal.{Refusal}
use Rattle.refusals.specs.declared.Refusal.TheVariants.{Short, Range, Bank}
use Rattle.minutes.specs.Minutes.{In, at}
use Rattle.minutes.proofs.Sets.{no_minute}
use Rattle.minutes.proofs.Bits.{in_below}
use Rattle.relations.specs.Meaning.{Meaning, Laws, size}
use Rattle.bank.specs.Calls.{all_below}
use Rattle.bank.proofs.Answering.{below_place}
use Rattle.calls.specs.Calls.{find, bank_unfit, or_else, find_refusal, unless_refused}
use Rattle.calls.specs.Replies.{Replies}
use Rattle.settle.specs.Workspace.{cleared}
use Rattle.plan.specs.declared.contents.Contents.{Contents}
use Rattle.plan.specs.Contents.{sets_of}
use Rattle.plan.proofs.Going.{shows, onward_still}
use Rattle.left.proofs.Leaving.{fits_size, fits_reach}
use Rattle.search.specs.declared.Answer.{Answer}
use Rattle.search.specs.Search.{Problem, WellPosed, FloorOf}
use Rattle.search.specs.Theorems.{problem}
use Rattle.find.specs.Outcome.{Outcome, Replied}
use Rattle.find.specs.Onward.{GoesOn}

-- the list says of a find what the contents say
goes_on : (p : Contents) (m : Meaning) (floor : List ℕ) (budget : ℕ) (old new : List ℕ) (w : ℕ) (r : Result Answer Refusal) →
    Replied (find_refusal p.period p.events m floor (length old) w) (problem m (sets_of p)) floor budget old new r → GoesOn p m floor budget old new w r
goes_on p m floor budget old new w r a cs d = record {
  plan = onward_still p (find m floor budget (length old) w) cs refl d;
  answer = subst (λ f. Replied (find_refusal p.period p.events m floor (length old) w) (problem m f) floor budget old new r) (shows p cs d).sets a;
}

-- which refusal a find has
module _ (T E : ℕ) (m : Meaning) (floor : List ℕ) (buffer w : ℕ) where
  refused_short : (length floor < E) ⊎ ((buffer < E) ⊎ (w < 4096)) → find_refusal T E m floor buffer w ≡ Some Short
  refused_short (inl h) = cond-true _ _ _ (or_left (ltb (length floor) E) _ (lt-ltb (length floor) E h))
  refused_short (inr (inl h)) = cond-true _ _ _ (or_right (ltb (length floor) E) _ (or_left (ltb buffer E) _ (lt-ltb buffer E h)))
  refused_short (inr (inr h)) = cond-true _ _ _ (or_right (ltb (length floor) E) _ (or_right (ltb buffer E) _ (lt-ltb w 4096 h)))

  module _ (a : E ≤ length floor) (b : E ≤ buffer) (c : 4096 ≤ w) where
    long : (ltb (length floor) E || (ltb buffer E || ltb w 4096)) ≡ false
    long = or_from (ltb (length floor) E) _ (le-ltb (length floor) E a) (or_from (ltb buffer E) _ (le-ltb buffer E b) (le-ltb w 4096 c))

    refused_range : all_below T (take E floor) ≡ false → find_refusal T E m floor buffer w ≡ Some Range
    refused_range h = cond-false _ _ _ long ∙ cond-true _ _ _ (ap not h)

    by_bank : all_below T (take E floor) ≡ true → (u : Bool) → u ≡ bank_unfit T E m → find_refusal T E m floor buffer w ≡ or_else u Bank None
    by_bank h u e = cond-false _ _ _ long ∙ cond-false _ _ _ (ap not h) ∙ ap (λ z. or_else z Bank None) (sym e)

module _ (x : Option Refusal) (q : Problem) (floor : List ℕ) (budget : ℕ) (old new : List ℕ) where
  refused : (e : Refusal) → x ≡ Some e → Replied x q floor budget old old (Err e)
  refused e is = record { reply = subst (λ z. Replies z (Outcome q floor budget old old) (Err e)) (sym is) refl; kept = λ _ _. refl }

  answered : (a : Answer) → x ≡ None → Outcome q floor budget old new a → Replied x q floor budget old new (Ok a)
  answered a is h = record {
    reply = subst (λ z. Replies z (Outcome q floor budget old new) (Ok a)) (sym is) (a, refl, h);
    kept = λ e u. absurd (false≢true (ap is_some (sym is ∙ u)));
  }

-- what is told of a find of the contents p, whose workspace w became w'
module _ (p : Contents) (m : Meaning) (floor : List ℕ) (budget : ℕ) (old w : List ℕ) where
  abbrev pub Told : List ℕ → List ℕ → Result Answer Refusal → Type 0
  Told new w' r = Replied (find_refusal p.period p.events m floor (length old) (length w)) (problem m (sets_of p)) floor budget old new r
      × (w' ≡ unless_refused (find_refusal p.period p.events m floor (length old) (length w)) (cleared w) w) × GoesOn p m floor budget old new (length w) r

  refuses : (e : Refusal) → find_refusal p.period p.events m floor (length old) (length w) ≡ Some e → Told old w (Err e)
  refuses e is =
      let a = refused (find_refusal p.period p.events m floor (length old) (length w)) (problem m (sets_of p)) floor budget old old e is in
      (a, ap (λ z. unless_refused z (cleared w) w) (sym is), goes_on p m floor budget old old (length w) (Err e) a)

  pub told_short : (length floor < p.events) ⊎ ((length old < p.events) ⊎ (length w < 4096)) → Told old w (Err Short)
  told_short h = refuses Short (refused_short p.period p.events m floor (length old) (length w) h)

  module _ (a : p.events ≤ length floor) (b : p.events ≤ length old) (c : 4096 ≤ length w) where
    pub told_range : all_below p.period (take p.events floor) ≡ false → Told old w (Err Range)
    told_range h = refuses Range (refused_range p.period p.events m floor (length old) (length w) a b c h)

    module _ (below : all_below p.period (take p.events floor) ≡ true) where
      pub told_bank : bank_unfit p.period p.events m ≡ true → Told old w (Err Bank)
      told_bank u = refuses Bank (by_bank p.period p.events m floor (length old) (length w) a b c below true (sym u))

      pub told : bank_unfit p.period p.events m ≡ false → (new w' : List ℕ) (answer : Answer) → Outcome (problem m (sets_of p)) floor budget old new answer → w' ≡ cleared w → Told new w' (Ok answer)
      told u new w' answer outcome clears =
          let is = by_bank p.period p.events m floor (length old) (length w) a b c below false (sym u) in
          let a = answered (find_refusal p.period p.events m floor (length old) (length w)) (problem m (sets_of p)) floor budget old new answer is outcome in
          (a, clears ∙ ap (λ z. unless_refused z (cleared w) w) (sym is), goes_on p m floor budget old new (length w) (Ok answer) a)

-- what the tests leave is a problem and a floor that a find accepts
fits_period : (T E : ℕ) (m : Meaning) → bank_unfit T E m ≡ false → m.period ≡ T
fits_period T E m h = eqb-true m.period T (not-false _ (or_parts (not (eqb m.period T)) _ (or_parts (ltb 512 (size m)) _ h).1).0)

module _ (p : Contents) (m : Meaning) (fits : bank_unfit p.period p.events m ≡ false) (len : length (sets_of p) ≡ p.events) where
  pub plan_posed : Laws m → 2 ≤ p.period → p.period ≤ 64 → 1 ≤ p.events → p.events ≤ 256 → ((i : ℕ) → at p.allowed i < 2 ^ p.period) → WellPosed (problem m (sets_of p))
  plan_posed laws a b c d s = record {
    laws = laws;
    relations = fits_size p.period p.events m fits;
    reach = omega (arith, fits_reach p.period p.events m fits);
    least = omega (arith, period);
    most = omega (arith, period);
    some = omega arith;
    many = omega arith;
    minutes = λ i t h. elim (cases_lt i p.events) [
      | inl l ↦ omega (arith, period, in_below p.period (at p.allowed i) t (s i) (subst (λ z. In t z) (get_or-take p.events p.allowed i 0 l) h))
      | inr l ↦ absurd (no_minute t (subst (λ z. In t z) (get_or_past (sets_of p) i 0 (omega arith)) h))
    ];
  }
    where
      period : m.period ≡ p.period
      period = fits_period p.period p.events m fits

  pub plan_floor : (floor : List ℕ) → p.events ≤ length floor → all_below p.period (take p.events floor) ≡ true → FloorOf (problem m (sets_of p)) floor
  plan_floor floor l h = record {
    long = omega arith;
    minute = λ i u. omega (arith, fits_period p.period p.events m fits, below_place p.period p.events floor i h (omega arith) (omega arith));
  }
