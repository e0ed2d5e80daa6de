-- Relations that take turns in narrowing a family.
use Rattle.std.proofs.Common.{◌≡◌, ℕ, suc, ◌+◌, ◌-◌, ◌*◌, ◌<◌, ◌≤◌, Bool, true, false, cond, List, min, length, sym, refl, ◌∙◌, subst, inl, inr, mul-le-mul_right, suc-mul, arith}
use Rattle.std.proofs.lemmas.Bool.{cases_lt, lt-ltb, le-leb, cond-true, cond-false}
use Rattle.minutes.specs.Minutes.{Within}
use Rattle.relations.specs.Meaning.{Meaning, Laws, relation, size}
use Rattle.bank.specs.Calls.{in_limits, Narrows}
use Rattle.rest.specs.Rest.{Stable, Suits}
use Rattle.rest.proofs.Families.{total, total_same}
use Rattle.rest.proofs.Settling.{Came, came_refl, came_trans, came_once, came_suits}

-- of n relations, those that had the last `quiet` turns before number k left f as it is
pub record Turning (m : Meaning) (n : ℕ) (f₀ f : List ℕ) (k quiet : ℕ) : Type 0 where
  pub came : Came m f₀ f
  pub inside : 0 < n → k < n
  pub most : quiet ≤ n
  pub before : (j : ℕ) → j < k → k ≤ j + quiet → (relation m j).narrowing f ≡ f
  pub around : (j : ℕ) → j < n → k + n ≤ j + quiet → (relation m j).narrowing f ≡ f

pub turning_none : (m : Meaning) (n : ℕ) (f : List ℕ) → Turning m n f f 0 0
turning_none m n f = record { came = came_refl m f; inside = λ h. h; most = omega arith; before = λ j h. absurd (omega arith); around = λ j h l. absurd (omega arith) }

-- all had their turn
pub all_quiet : (m : Meaning) (n : ℕ) (f₀ f : List ℕ) (k quiet : ℕ) → n ≡ size m → n ≤ quiet → Turning m n f₀ f k quiet → Stable m f
all_quiet m n f₀ f k quiet e q t j h = elim (cases_lt j k) [
  | inl l ↦ t.before j l (omega (arith, t.inside))
  | inr l ↦ t.around j (omega arith) (omega arith)
]

-- how many turns are left at most
abbrev pub turns_left : ℕ → List ℕ → ℕ → ℕ
turns_left n f quiet = total f * (n + 1) + (n - quiet)

-- the number after k, round to 0 after the last
pub data Next (n k : ℕ) : ℕ → Type 0 where
  up : k + 1 < n → Next n k (k + 1)
  round : n ≤ k + 1 → Next n k 0

next_inside : (n k k' : ℕ) → 0 < n → Next n k k' → k' < n
next_inside n k _ h (up l) = l
next_inside n k _ h (round l) = h

-- what `quiet` becomes at a turn that says whether it changed the family
abbrev pub Heard : ℕ → Bool → ℕ → Type 0
Heard quiet changed quiet' = quiet' ≡ cond changed 0 (quiet + 1)

-- what a turn of relation k leaves, which made g of f
pub record Turned (m : Meaning) (n : ℕ) (f₀ f g : List ℕ) (k quiet : ℕ) (changed : Bool) : Type 0 where
  pub came : Came m f₀ g
  pub turning : (quiet' k' : ℕ) → Heard quiet changed quiet' → Next n k k' → Turning m n f₀ g k' quiet'
  pub less : (quiet' : ℕ) → Heard quiet changed quiet' → turns_left n g quiet' < turns_left n f quiet

module _ (m : Meaning) (laws : Laws m) (n : ℕ) (f₀ f g : List ℕ) (k quiet : ℕ) (number : n ≡ size m) (most : n ≤ 512) (suits : Suits m f₀) (t : Turning m n f₀ f k quiet) (on : quiet < n) where
  low : k < n
  low = t.inside (omega arith)

  now_suits : Suits m f
  now_suits = came_suits m f₀ f suits t.came

  inside_limits : in_limits (size m) m.reach k (length f) ≡ true
  inside_limits =
      let a = lt-ltb k (size m) (omega arith) in
      let b = lt-ltb k 512 (omega arith) in
      let c = le-leb m.reach (length f) now_suits.long.low in
      let d = le-leb (length f) 256 now_suits.long.high in
      rw (a, b, c, d)

  narrows : (r : Bool) → Narrows m k f g r → g ≡ (relation m k).narrowing f
  narrows r w = w.after ∙ cond-true _ _ _ inside_limits

  once : (r : Bool) → Narrows m k f g r → Came m f₀ g
  once r w = came_trans m f₀ f g t.came (subst (λ z. Came m f z) (sym (narrows r w)) (came_once m laws k f (omega arith) now_suits))

  -- what one more turn leaves quiet
  turn_before : (k' : ℕ) → Next n k k' → (relation m k).narrowing f ≡ f → (j : ℕ) → j < k' → k' ≤ j + (quiet + 1) → (relation m j).narrowing f ≡ f
  turn_before _ (round l) here j h g = absurd (omega arith)
  turn_before _ (up l) here j h g = elim (cases_lt j k) [
    | inl u ↦ t.before j u (omega arith)
    | inr u ↦ let q : k ≡ j = omega arith in subst (λ z. (relation m z).narrowing f ≡ f) q here
  ]

  turn_around : (k' : ℕ) → Next n k k' → (relation m k).narrowing f ≡ f → (j : ℕ) → j < n → k' + n ≤ j + (quiet + 1) → (relation m j).narrowing f ≡ f
  turn_around _ (up l) here j h g = t.around j h (omega arith)
  turn_around _ (round l) here j h g = elim (cases_lt j k) [
    | inl u ↦ t.before j u (omega arith)
    | inr u ↦ let q : k ≡ j = omega arith in subst (λ z. (relation m z).narrowing f ≡ f) q here
  ]

  turning : (r : Bool) → Narrows m k f g r → (k' : ℕ) → Next n k k' → Turning m n f₀ g k' (cond r 0 (quiet + 1))
  turning true w k' e = record {
    came = once true w;
    inside = λ h. next_inside n k k' h e;
    most = omega arith;
    before = λ j h l. absurd (omega arith);
    around = λ j h l. absurd (omega (arith, next_inside n k k' (omega arith) e));
  }
  turning false w k' e =
      let here : (relation m k).narrowing f ≡ f = sym (narrows false w) ∙ w.same refl in
      subst (λ z. Turning m n f₀ z k' (quiet + 1)) (sym (w.same refl)) (record {
        came = t.came;
        inside = λ h. next_inside n k k' h e;
        most = omega arith;
        before = turn_before k' e here;
        around = turn_around k' e here;
      })

  -- either a minute went, or one more relation is quiet
  fewer : total g < total f → turns_left n g 0 < turns_left n f quiet
  fewer h = let e : suc (total g) * (n + 1) ≤ total f * (n + 1) = mul-le-mul_right (n + 1) h in omega (arith, suc-mul (total g) (n + 1))

  less : (r : Bool) → Narrows m k f g r → turns_left n g (cond r 0 (quiet + 1)) < turns_left n f quiet
  less true w = fewer (elim (cases_lt (total g) (total f)) [
    | inl l ↦ l
    | inr l ↦ absurd (w.other refl (total_same g f (subst (λ z. Within z f) (sym (narrows true w)) (came_once m laws k f (omega arith) now_suits).inside) l))
  ])
  less false w = subst (λ z. turns_left n z (quiet + 1) < turns_left n f quiet) (sym (w.same refl)) (omega arith)

  turned_by : (r : Bool) → Narrows m k f g r → Turned m n f₀ f g k quiet r
  turned_by r w = record {
    came = once r w;
    turning = λ quiet' k' e next. subst (λ z. Turning m n f₀ g k' z) (sym e) (turning r w k' next);
    less = λ quiet' e. subst (λ z. turns_left n g z < turns_left n f quiet) (sym e) (less r w);
  }

-- of a bank that says its size up to 513, and has 512 relations at most
pub turned : {m : Meaning} {n : ℕ} {f₀ f g : List ℕ} {k quiet : ℕ} {r : Bool} → Laws m → n ≡ min (size m) 513 → size m ≤ 512 → Suits m f₀ →
    Turning m n f₀ f k quiet → quiet < n → Narrows m k f g r → Turned m n f₀ f g k quiet r
turned laws is small suits t on w = turned_by _ laws _ _ _ _ _ _ (omega (arith, is, small)) (omega (arith, is, small)) suits t on _ w

-- how the count of quiet turns and the number of the next relation come from their branches
pub heard : (quiet : ℕ) {quiet' : ℕ} {r : Bool} → r ≡ true → quiet' ≡ 0 → Heard quiet r quiet'
heard _ b e = e ∙ sym (cond-true _ _ _ b)

pub unheard : (quiet : ℕ) {quiet' : ℕ} {r : Bool} → r ≡ false → quiet' ≡ quiet + 1 → Heard quiet r quiet'
unheard _ b e = e ∙ sym (cond-false _ _ _ b)

pub goes_up : (n k : ℕ) {k' : ℕ} → k < n → (k + 1 ≡ n → ⊥) → k' ≡ k + 1 → Next n k k'
goes_up n k l ne e = subst (λ z. Next n k z) (sym e) (up (omega arith))

pub goes_round : (n k : ℕ) {k' : ℕ} → k + 1 ≡ n → k' ≡ 0 → Next n k k'
goes_round n k l e = subst (λ z. Next n k z) (sym e) (round (omega arith))
