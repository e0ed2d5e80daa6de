-- What a bank has to show of its calls, by the ways that they go.
use Rattle.std.proofs.Common.{◌≡◌, ℕ, ◌<◌, ◌≤◌, min, Bool, true, false, ◌&&◌, ltb, leb, List, length, take, sym, refl, ap, ◌∙◌, subst, inl, inr, arith}
use Rattle.std.proofs.lemmas.Bool.{ltb-true, leb-true, lt-ltb, le-leb, and_parts, and_from, cases_Bool, both_ways, cond-true, cond-false, false≢true}
use Rattle.std.proofs.lemmas.List.{get_or-take, length-take}
use Rattle.minutes.specs.Minutes.{at}
use Rattle.relations.specs.Meaning.{Meaning, relation, size}
use Rattle.bank.specs.Calls.{in_limits, all_below, answer, Narrows}
use Rattle.bank.proofs.Below.{below_at}

-- what the limits say
pub record Limits (n r k len : ℕ) : Type 0 where
  pub number : k < n
  pub table : k < 512
  pub low : r ≤ len
  pub high : len ≤ 256

pub limits_are : (n r k len : ℕ) → in_limits n r k len ≡ true → Limits n r k len
limits_are n r k len h =
    let a = and_parts (ltb k n) _ h in
    let b = and_parts (ltb k 512) _ a.1 in
    let c = and_parts (leb r len) (leb len 256) b.1 in
    record { number = ltb-true k n a.0; table = ltb-true k 512 b.0; low = leb-true r len c.0; high = leb-true len 256 c.1 }

pub limits_from : (n r k len : ℕ) → Limits n r k len → in_limits n r k len ≡ true
limits_from n r k len h = and_from _ _ (lt-ltb k n h.number) (and_from _ _ (lt-ltb k 512 h.table) (and_from _ _ (le-leb r len h.low) (le-leb len 256 h.high)))

-- capped size and reach do not matter within the in-limits
pub uncapped : (s r k n : ℕ) (b : Bool) → in_limits (min s 513) (min r 257) k n ≡ b → in_limits s r k n ≡ b
uncapped s r k n b h = elim (cases_Bool (in_limits (min s 513) (min r 257) k n)) [
  | inl e ↦ let m = limits_are (min s 513) (min r 257) k n e in
      limits_from s r k n (record { number = omega (arith, m.number); table = m.table; low = omega (arith, m.low, m.high); high = m.high }) ∙ sym e ∙ h
  | inr e ↦ elim (cases_Bool (in_limits s r k n)) [
    | inl d ↦ let m = limits_are s r k n d in
        absurd (both_ways (in_limits (min s 513) (min r 257) k n) e (limits_from (min s 513) (min r 257) k n (record { number = omega (arith, m.number, m.table); table = m.table; low = omega (arith, m.low); high = m.high })))
    | inr d ↦ d ∙ sym e ∙ h
  ]
]

module _ (m : Meaning) (k n r : ℕ) (hn : n ≡ size m) (hr : r ≡ m.reach) where
  limits_same : (len : ℕ) (b : Bool) → in_limits n r k len ≡ b → in_limits (size m) m.reach k len ≡ b
  limits_same len b h = ap (λ z. in_limits z m.reach k len) (sym hn) ∙ ap (λ z. in_limits n z k len) (sym hr) ∙ h

  pub answer_outside : (x : List ℕ) → in_limits n r k (length x) ≡ false → false ≡ answer m k x
  answer_outside x h = sym (ap (λ b. b && (all_below m.period (take m.reach x) && (relation m k).condition x)) (limits_same (length x) false h))

  answer_limits : (x : List ℕ) → in_limits n r k (length x) ≡ true → answer m k x ≡ (all_below m.period (take r x) && (relation m k).condition x)
  answer_limits x h =
      ap (λ b. b && (all_below m.period (take m.reach x) && (relation m k).condition x)) (limits_same (length x) true h)
      ∙ ap (λ z. all_below m.period (take z x) && (relation m k).condition x) (sym hr)

  pub answer_late : (x : List ℕ) → in_limits n r k (length x) ≡ true → all_below m.period (take r x) ≡ false → false ≡ answer m k x
  answer_late x h a = sym (answer_limits x h ∙ ap (λ b. b && (relation m k).condition x) a)

  pub answer_inside : (x : List ℕ) (b : Bool) → in_limits n r k (length x) ≡ true → all_below m.period (take r x) ≡ true → b ≡ (relation m k).condition x → b ≡ answer m k x
  answer_inside x b h a e = e ∙ sym (answer_limits x h ∙ ap (λ b. b && (relation m k).condition x) a)

  pub narrows_outside : (f : List ℕ) → in_limits n r k (length f) ≡ false → Narrows m k f f false
  narrows_outside f h = record {
    after = sym (cond-false _ _ _ (limits_same (length f) false h));
    other = λ e. absurd (false≢true e);
    same = λ e. refl;
  }

  pub narrows_inside : (f g : List ℕ) (b : Bool) → in_limits n r k (length f) ≡ true → g ≡ (relation m k).narrowing f → (b ≡ true → g ≡ f → ⊥) → (b ≡ false → g ≡ f) → Narrows m k f g b
  narrows_inside f g b h e y z = record {
    after = e ∙ sym (cond-true _ _ _ (limits_same (length f) true h));
    other = y;
    same = z;
  }

-- the minutes that the test has looked at
pub below_place : (T r : ℕ) (x : List ℕ) (i : ℕ) → all_below T (take r x) ≡ true → i < r → i < length x → at x i < T
below_place T r x i h l n = subst (λ z. z < T) (get_or-take r x i 0 l) (below_at T (take r x) i h (omega (arith, length-take r x)))
