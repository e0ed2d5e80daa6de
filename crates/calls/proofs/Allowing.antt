-- Allows in another order, and given again; and what the allowed family has.
use Rattle.std.proofs.Common.{◌≡◌, ℕ, zero, suc, ◌+◌, ◌-◌, ◌*◌, ◌/◌, ◌^◌, ◌<◌, ◌≤◌, Bool, true, false, cond, ◌&&◌, eqb, ltb, leb, List, [], ◌∷◌, ◌++◌, length, set, Some, None, Option, sym, refl, ap, ◌∙◌, subst, inl, inr, append_assoc, pow-suc, arith, pow_pos}
use lib.Bits.{bit_and}
use lib.Pow.{ones_split, ones_lt}
use lib.Pow as pow
use Rattle.std.proofs.lemmas.Bool.{cases_Bool, cond-true, cond-false, or_parts, eq-eqb, eqb-true, eqb-false, ltb-false, and_left, and_right, not_from_true}
use Rattle.std.proofs.lemmas.List.{get_or-set_same, set-get_or}
use Rattle.refusals.specs.declared.Refusal.{Refusal}
use Rattle.refusals.specs.declared.Refusal.TheVariants.{Range, Event}
use Rattle.minutes.specs.Minutes.{In, at}
use Rattle.minutes.proofs.Sets.{same_sets}
use Rattle.minutes.proofs.Bits.{and_in, in_and, in_below}
use Rattle.calls.specs.Calls.{Call, allow, level, allowed, Ledger, levels_of, entries_of, allowed_set, allowed_from, family, is_entry, or_else, no_event, allow_refusal, refusal, done, unless_refused, ledger}
use Rattle.calls.specs.Standing.{Accepts}
use Rattle.calls.specs.Laws.{Among, EitherOrder, AllowAgain, FamilyRight}
use Rattle.calls.proofs.Lists.{ledger_push, from_length, from_at, family_cut}
use Rattle.calls.proofs.InWords.{ledgers_right}

-- an accepted allow is one more item
record Pushed (T E : ℕ) (cs : List Call) (e s : ℕ) : Type 0 where
  entry : Bool
  is : ledger T E (cs ++ allow e s ∷ []) ≡ allowed (length cs) e s entry ∷ ledger T E cs
  told : is_entry (levels_of (ledger T E cs)) (at (family T E (ledger T E cs)) (e - 1)) s ≡ entry

pushed : (T E : ℕ) (cs : List Call) (e s : ℕ) → Accepts T E cs (allow e s) → Pushed T E cs e s
pushed T E cs e s a = record {
  entry = _;
  told = refl;
  is = ledger_push T E cs (allow e s) ∙ ap (λ z. unless_refused z (done T E (length cs) (ledger T E cs) (allow e s)) (ledger T E cs)) a;
}

-- sets that are equal at every event make equal families
from_same : (T : ℕ) (k l : Ledger) → ((v : ℕ) → allowed_set T k v ≡ allowed_set T l v) → (v n : ℕ) → allowed_from T k v n ≡ allowed_from T l v n
from_same T k l h v zero = refl
from_same T k l h v (suc n) = let x = h v in let y = from_same T k l h (suc v) n in λ i. x i ∷ y i

and_swap : (a s t : ℕ) → bit_and (bit_and a s) t ≡ bit_and (bit_and a t) s
and_swap a s t = same_sets _ _ (way a s t) (way a t s)
  where
    way : (a s t m : ℕ) → In m (bit_and (bit_and a s) t) → In m (bit_and (bit_and a t) s)
    way a s t m h =
        let u = in_and (bit_and a s) t m h in
        let v = in_and a s m u.0 in
        and_in (bit_and a t) s m (and_in a t m v.0 u.1) v.1

and_again : (a s : ℕ) → bit_and (bit_and a s) s ≡ bit_and a s
and_again a s = same_sets _ _ (λ m h. (in_and (bit_and a s) s m h).0) (λ m h. and_in (bit_and a s) s m h (in_and a s m h).1)

cut_swap : (a s t : ℕ) (x y : Bool) → cond x (bit_and (cond y (bit_and a t) a) s) (cond y (bit_and a t) a) ≡ cond y (bit_and (cond x (bit_and a s) a) t) (cond x (bit_and a s) a)
cut_swap a s t true true = and_swap a t s
cut_swap a s t true false = refl
cut_swap a s t false true = refl
cut_swap a s t false false = refl

-- two accepted allows
record Two (T E : ℕ) (cs : List Call) (e s v t : ℕ) : Type 0 where
  call : ℕ
  entry : Bool
  first : Bool
  is : ledger T E (cs ++ allow e s ∷ allow v t ∷ []) ≡ allowed call v t entry ∷ allowed (length cs) e s first ∷ ledger T E cs

two : (T E : ℕ) (cs : List Call) (e s v t : ℕ) → Accepts T E cs (allow e s) → Accepts T E (cs ++ allow e s ∷ []) (allow v t) → Two T E cs e s v t
two T E cs e s v t a b =
    let x = pushed T E cs e s a in
    let y = pushed T E (cs ++ allow e s ∷ []) v t b in
    record {
      call = length (cs ++ allow e s ∷ []);
      entry = y.entry;
      first = x.entry;
      is = ap (ledger T E) (sym (append_assoc cs (allow e s ∷ []) (allow v t ∷ []))) ∙ y.is ∙ ap (λ k. allowed (length (cs ++ allow e s ∷ [])) v t y.entry ∷ k) x.is;
    }

pub either_order : EitherOrder
either_order T E cs e s v t a b c d =
    let x = two T E cs e s v t a b in
    let y = two T E cs v t e s c d in
    let l = ledger T E cs in
    ap (family T E) x.is
    ∙ from_same T (allowed x.call v t x.entry ∷ allowed (length cs) e s x.first ∷ l) (allowed y.call e s y.entry ∷ allowed (length cs) v t y.first ∷ l) (λ u. cut_swap (allowed_set T l u) t s (eqb v u) (eqb e u)) 1 E
    ∙ sym (ap (family T E) y.is)

-- what the tests of an accepted allow leave
record Passed (T E e s : ℕ) : Type 0 where
  range : leb (2 ^ T) s ≡ false
  event : no_event E e ≡ false

some_none : (r : Refusal) → Some r ≡ None → ⊥
some_none r e = let z : ◌≡◌ {A = ℕ} 0 1 = cc in omega arith

or_else_none : (b : Bool) (r : Refusal) (x : Option Refusal) → or_else b r x ≡ None → (b ≡ false) × (x ≡ None)
or_else_none true r x h = absurd (some_none r h)
or_else_none false r x h = (refl, h)

passed : (T E old levels entries e s : ℕ) → allow_refusal T E old levels entries e s ≡ None → Passed T E e s
passed T E old levels entries e s h =
    let a = or_else_none (leb (2 ^ T) s) Range _ h in
    record { range = a.0; event = (or_else_none (no_event E e) Event _ a.1).0 }

still_accepted : (T E old levels entries e s : ℕ) → Passed T E e s → bit_and old s ≡ old → (is_entry levels old s ≡ false) × (allow_refusal T E old levels entries e s ≡ None)
still_accepted T E old levels entries e s p h =
    let n : is_entry levels old s ≡ false = and_right (ltb 0 levels) _ (not_from_true _ (eq-eqb (bit_and old s) old h)) in
    (n, cond-false (leb (2 ^ T) s) _ _ p.range ∙ cond-false (no_event E e) _ _ p.event ∙ cond-false (is_entry levels old s && leb 1024 entries) _ _ (and_left _ _ n))

event_low : (E e : ℕ) → no_event E e ≡ false → 0 < e
event_low E e h = omega (arith, eqb-false e 0 (or_parts (eqb e 0) _ h).0)

event_high : (E e : ℕ) → no_event E e ≡ false → e ≤ E
event_high E e h = ltb-false E e (or_parts (eqb e 0) _ h).1

pub allow_again : AllowAgain
allow_again T E cs e s a = record {
  accepted = ap (λ l. refusal T E l (allow e s)) x.is ∙ quiet.1;
  sets = ap (family T E) again ∙ family_cut T (length (cs ++ allow e s ∷ [])) s y.entry after E e low high
      ∙ ap (set (family T E after) (e - 1)) same ∙ set-get_or (family T E after) (e - 1) 0 ∙ ap (family T E) (sym x.is);
  entries = ap entries_of again ∙ ap (λ b. cond b (suc (entries_of after)) (entries_of after)) (sym y.told ∙ ap (λ l. is_entry (levels_of l) (at (family T E l) (e - 1)) s) x.is ∙ quiet.0) ∙ ap entries_of (sym x.is);
}
  where
    l : Ledger
    l = ledger T E cs

    x : Pushed T E cs e s
    x = pushed T E cs e s a

    after : Ledger
    after = allowed (length cs) e s x.entry ∷ l

    p : Passed T E e s
    p = passed T E (at (family T E l) (e - 1)) (levels_of l) (entries_of l) e s a

    low : 0 < e
    low = event_low E e p.event

    high : e ≤ E
    high = event_high E e p.event

    cut : at (family T E after) (e - 1) ≡ bit_and (at (family T E l) (e - 1)) s
    cut = ap (λ f. at f (e - 1)) (family_cut T (length cs) s x.entry l E e low high)
        ∙ get_or-set_same (family T E l) (e - 1) _ 0 (omega (arith, from_length T l 1 E, low, high))

    same : bit_and (at (family T E after) (e - 1)) s ≡ at (family T E after) (e - 1)
    same = ap (λ v. bit_and v s) cut ∙ and_again (at (family T E l) (e - 1)) s ∙ sym cut

    quiet : (is_entry (levels_of after) (at (family T E after) (e - 1)) s ≡ false) × (refusal T E after (allow e s) ≡ None)
    quiet = still_accepted T E (at (family T E after) (e - 1)) (levels_of after) (entries_of after) e s p same

    y : Pushed T E (cs ++ allow e s ∷ []) e s
    y = pushed T E (cs ++ allow e s ∷ []) e s (ap (λ k. refusal T E k (allow e s)) x.is ∙ quiet.1)

    again : ledger T E (cs ++ allow e s ∷ allow e s ∷ []) ≡ allowed (length (cs ++ allow e s ∷ [])) e s y.entry ∷ after
    again = ap (ledger T E) (sym (append_assoc cs (allow e s ∷ []) (allow e s ∷ []))) ∙ y.is ∙ ap (λ k. allowed (length (cs ++ allow e s ∷ [])) e s y.entry ∷ k) x.is

-- every minute of the period
whole_in : (T m : ℕ) → m < T → In m (2 ^ T - 1)
whole_in T m h =
    let k : (T - m) + m ≡ T = omega arith in
    let o : 2 ^ T - 1 ≡ (2 ^ (T - m) - 1) * 2 ^ m + (2 ^ m - 1) = ap (λ n. 2 ^ n - 1) (sym k) ∙ ones_split (T - m) m in
    let d : (2 ^ T - 1) / 2 ^ m ≡ 2 ^ (T - m) - 1 = ap (λ n. n / 2 ^ m) o ∙ pow.high (2 ^ (T - m) - 1) m (ones_lt m) in
    let e : 2 ^ (T - m) ≡ 2 ^ suc (T - m - 1) = ap (λ n. 2 ^ n) (let u : T - m ≡ suc (T - m - 1) = omega arith in u) in
    omega (arith, d, e, pow-suc 2 (T - m - 1), pow_pos (T - m - 1))

module _ (T v m : ℕ) where
  set_below : (l : Ledger) → In m (allowed_set T l v) → m < T
  set_below [] h = in_below T (2 ^ T - 1) m (ones_lt T) h
  set_below (level c ∷ l) h = set_below l h
  set_below (allowed c e s b ∷ l) h = elim (cases_Bool (eqb e v)) [
    | inl t ↦ set_below l (in_and (allowed_set T l v) s m (subst (In m) (cond-true (eqb e v) _ _ t) h)).0
    | inr f ↦ set_below l (subst (In m) (cond-false (eqb e v) _ _ f) h)
  ]

  set_each : (l : Ledger) → In m (allowed_set T l v) → (i s : ℕ) (b : Bool) → Among (allowed i v s b) l → In m s
  set_each [] h i s b a = absurd a
  set_each (level c ∷ l) h i s b (inl e) = absurd (let z : ◌≡◌ {A = ℕ} 0 1 = cc in omega arith)
  set_each (level c ∷ l) h i s b (inr a) = set_each l h i s b a
  set_each (allowed c e t k ∷ l) h i s b (inl d) =
      let x : e ≡ v = cc in let y : t ≡ s = cc in
      subst (In m) y (in_and (allowed_set T l v) t m (subst (In m) (cond-true (eqb e v) _ _ (eq-eqb e v x)) h)).1
  set_each (allowed c e t k ∷ l) h i s b (inr a) = elim (cases_Bool (eqb e v)) [
    | inl u ↦ set_each l (in_and (allowed_set T l v) t m (subst (In m) (cond-true (eqb e v) _ _ u) h)).0 i s b a
    | inr f ↦ set_each l (subst (In m) (cond-false (eqb e v) _ _ f) h) i s b a
  ]

  set_has : (l : Ledger) → m < T → ((i s : ℕ) (b : Bool) → Among (allowed i v s b) l → In m s) → In m (allowed_set T l v)
  set_has [] h f = whole_in T m h
  set_has (level c ∷ l) h f = set_has l h (λ i s b a. f i s b (inr a))
  set_has (allowed c e s k ∷ l) h f =
      let r = set_has l h (λ i t b a. f i t b (inr a)) in
      elim (cases_Bool (eqb e v)) [
        | inl t ↦ subst (In m) (sym (cond-true (eqb e v) _ _ t)) (and_in (allowed_set T l v) s m r (f c s k (inl (let x = eqb-true e v t in λ i. allowed c (sym x i) s k))))
        | inr t ↦ subst (In m) (sym (cond-false (eqb e v) _ _ t)) r
      ]

pub family_right : FamilyRight
family_right T E cs e m low high =
    let l = ledger T E cs in
    let right = ledgers_right T E cs in
    let is : at (family T E l) (e - 1) ≡ allowed_set T l e = from_at T l 1 E (e - 1) (omega arith) ∙ ap (allowed_set T l) (let u : 1 + (e - 1) ≡ e = omega arith in u) in
    record {
      below = λ h. set_below T e m l (subst (In m) is h);
      in_each = λ h i s k. let r = right.allows_all i e s k in set_each T e m l (subst (In m) is h) i s r.0 r.1;
      if_in_each = λ h f. subst (In m) (sym is) (set_has T e m l h (λ i s b a. f i s (right.allows_only i e s b a)));
    }
