-- A left that is refused or answers.
use Rattle.std.proofs.Common.{◌≡◌, ℕ, ◌+◌, ◌-◌, ◌^◌, ◌<◌, ◌≤◌, Bool, true, false, not, eqb, ltb, List, ◌++◌, length, drop, replicate, Some, None, Ok, Err, Option, Result, sym, refl, ap, ◌∙◌, subst, inl, inr, arith, pow_pos, pow_mono}
use Rattle.std.proofs.lemmas.Bool.{cases_Bool, cond-true, cond-false, lt-ltb, le-ltb, ltb-false, or_parts, cases_lt}
use Rattle.std.proofs.lemmas.List.{get_or-take, get_or_past}
use Rattle.std.proofs.lemmas.Slice.{drop-append-drop}
use Rattle.refusals.specs.declared.Refusal.{Refusal}
use Rattle.refusals.specs.declared.Refusal.TheVariants.{Short, Event, Bank}
use Rattle.minutes.specs.Minutes.{at, NoneEmpty}
use Rattle.relations.specs.Meaning.{Meaning, Laws, size}
use Rattle.rest.specs.Rest.{Left, Suits, narrowed, has_empty}
use Rattle.rest.proofs.Settling.{some_order, any_order}
use Rattle.calls.specs.Calls.{Call, left, no_event, bank_unfit, or_else, left_refusal, unless_refused}
use Rattle.calls.specs.Replies.{Replies}
use Rattle.settle.specs.Settles.{Settles}
use Rattle.settle.specs.Workspace.{cleared}
use Rattle.settle.proofs.Emptiness.{no_empty, some_empty}
use Rattle.plan.specs.declared.contents.Contents.{Contents}
use Rattle.plan.specs.Contents.{sets_of}
use Rattle.plan.specs.Decided.{Decided}
use Rattle.plan.proofs.Going.{shows, onward_still}
use Rattle.left.specs.Leaves.{Onward, Leaves}

replies_same : (x : Option Refusal) (P Q : ℕ → Type 0) (r : Result ℕ Refusal) → ((n : ℕ) → P n → Q n) → Replies x P r → Replies x Q r
replies_same None P Q r h a = (a.0, a.1, h a.0 a.2)
replies_same (Some e) P Q r h a = a

-- the list says of a left what the contents say
pub goes_on : (p : Contents) (m : Meaning) (e w : ℕ) (r : Result ℕ Refusal) → Replies (left_refusal p.period p.events m e w) (Left m (sets_of p) e) r → (cs : List Call) → Decided p cs → Onward p m e w r cs
goes_on p m e w r a cs d = record {
  plan = onward_still p (left m e w) cs refl d;
  answer = replies_same (left_refusal p.period p.events m e w) _ _ r (λ n. subst (λ f. Left m f e n) (shows p cs d).sets) a;
}

module _ (T E : ℕ) (m : Meaning) (e w : ℕ) where
  refused_short : w < 4096 → left_refusal T E m e w ≡ Some Short
  refused_short h = cond-true (ltb w 4096) _ _ (lt-ltb w 4096 h)

  module _ (long : 4096 ≤ w) where
    refused_event : no_event E e ≡ true → left_refusal T E m e w ≡ Some Event
    refused_event h = cond-false (ltb w 4096) _ _ (le-ltb w 4096 long) ∙ cond-true (no_event E e) _ _ h

    by_bank : no_event E e ≡ false → (b : Bool) → b ≡ bank_unfit T E m → left_refusal T E m e w ≡ or_else b Bank None
    by_bank h b u = cond-false (ltb w 4096) _ _ (le-ltb w 4096 long) ∙ cond-false (no_event E e) _ _ h ∙ ap (λ z. or_else z Bank None) (sym u)

-- the reply of a refused left, and of one that answers
refused : (x : Option Refusal) (P : ℕ → Type 0) (e : Refusal) → x ≡ Some e → Replies x P (Err e)
refused x P e is = subst (λ z. Replies z P (Err e)) (sym is) refl

answered : (x : Option Refusal) (P : ℕ → Type 0) (n : ℕ) → x ≡ None → P n → Replies x P (Ok n)
answered x P n is h = subst (λ z. Replies z P (Ok n)) (sym is) (n, refl, h)

module _ (p : Contents) (m : Meaning) (e : ℕ) (w : List ℕ) where
  refuses : (r : Refusal) → left_refusal p.period p.events m e (length w) ≡ Some r → Leaves p m e w w (Err r)
  refuses r is =
      let a = refused (left_refusal p.period p.events m e (length w)) (Left m (sets_of p) e) r is in
      record { answer = a; workspace = ap (λ z. unless_refused z (cleared w) w) (sym is); list = goes_on p m e (length w) (Err r) a }

  pub leaves_short : length w < 4096 → Leaves p m e w w (Err Short)
  leaves_short h = refuses Short (refused_short p.period p.events m e (length w) h)

  module _ (long : 4096 ≤ length w) where
    pub leaves_event : no_event p.events e ≡ true → Leaves p m e w w (Err Event)
    leaves_event h = refuses Event (refused_event p.period p.events m e (length w) long h)

    module _ (event : no_event p.events e ≡ false) where
      pub leaves_bank : bank_unfit p.period p.events m ≡ true → Leaves p m e w w (Err Bank)
      leaves_bank u = refuses Bank (by_bank p.period p.events m e (length w) long event true (sym u))

      pub leaves : bank_unfit p.period p.events m ≡ false → (w' : List ℕ) (n : ℕ) → Left m (sets_of p) e n → w' ≡ cleared w → Leaves p m e w w' (Ok n)
      leaves u w' n found clears =
          let is = by_bank p.period p.events m e (length w) long event false (sym u) in
          let a = answered (left_refusal p.period p.events m e (length w)) (Left m (sets_of p) e) n is found in
          record { answer = a; workspace = clears ∙ ap (λ z. unless_refused z (cleared w) w) (sym is); list = goes_on p m e (length w) (Ok n) a }

full_has : (f : List ℕ) → NoneEmpty f → has_empty f ≡ false
full_has f full = elim (cases_Bool (has_empty f)) [ inl e ↦ absurd (some_empty f e full) | inr e ↦ e ]

dead_has : (f : List ℕ) → (NoneEmpty f → ⊥) → has_empty f ≡ true
dead_has f dead = elim (cases_Bool (has_empty f)) [ inl e ↦ e | inr e ↦ absurd (dead (no_empty f e)) ]

-- what the tests of a bank leave
pub fits_size : (T E : ℕ) (m : Meaning) → bank_unfit T E m ≡ false → size m ≤ 512
fits_size T E m h = ltb-false 512 (size m) (or_parts (ltb 512 (size m)) _ h).0

pub fits_reach : (T E : ℕ) (m : Meaning) → bank_unfit T E m ≡ false → m.reach ≤ E
fits_reach T E m h = ltb-false E m.reach (or_parts (not (eqb m.period T)) _ (or_parts (ltb 512 (size m)) _ h).1).1

-- the allowed family is one that the laws speak of
pub sets_suit : (p : Contents) (m : Meaning) → bank_unfit p.period p.events m ≡ false → p.period ≤ 64 → p.events ≤ 256 → length (sets_of p) ≡ p.events → ((i : ℕ) → at p.allowed i < 2 ^ p.period) → Suits m (sets_of p)
sets_suit p m h a b n s = record {
  long = record { low = omega (arith, fits_reach p.period p.events m h); high = omega arith };
  words = λ i. elim (cases_lt i p.events) [
    | inl l ↦ let e = get_or-take p.events p.allowed i 0 l in let q : 2 ^ p.period ≤ 2 ^ 64 = pow_mono a in omega (arith, s i)
    | inr l ↦ subst (λ v. v < 2 ^ 64) (sym (get_or_past (sets_of p) i 0 (omega arith))) (pow_pos 64)
  ];
}

-- the workspace afterwards
pub all_cleared : (w f : List ℕ) (n : ℕ) → n ≤ 4096 → length f ≡ n → cleared (f ++ drop n w) ≡ cleared w
all_cleared w f n h e = ap (λ z. replicate 4096 0 ++ z) (drop-append-drop n w f 4096 h e)

-- what is left, where the family settled to g
pub left_alive : (m : Meaning) (f g : List ℕ) (place : ℕ) → Settles m f g true → Left m f (place + 1) (at g place)
left_alive m f g place s =
    let n : place ≡ place + 1 - 1 = omega arith in
    record { rest = g; is_rest = s.rest refl; set = ap (at g) n ∙ sym (cond-false (has_empty g) _ _ (full_has g (s.full refl))) }

pub left_dead : (m : Meaning) (f g : List ℕ) (e : ℕ) → Laws m → Suits m f → Settles m f g false → Left m f e 0
left_dead m f g e laws suits s =
    let o = some_order m laws f suits in
    let r = any_order m laws f o.0 suits o.1 o.2 in
    record { rest = narrowed m o.0 f; is_rest = r; set = sym (cond-true (has_empty (narrowed m o.0 f)) _ _ (dead_has (narrowed m o.0 f) (s.dead refl (narrowed m o.0 f) r))) }
