-- Rows of least lengths in one scan: the least length to a minute is one more than that to the minute before it, or what is
-- known of the minute itself.
use Rattle.std.proofs.Common.{◌≡◌, ℕ, ◌+◌, ◌-◌, ◌%◌, ◌<◌, ◌≤◌, min, cond, ◌⊎◌, sym, ap, ◌∙◌, subst, inl, inr, mod-eq_of_lt, arith}
use native.Mathlib.Nat.{add-mod_right}
use Rattle.std.proofs.lemmas.Bool.{cases_lt, cases_eq, cases_Bool, cond-true, cond-false, cond_both}
use Rattle.minutes.specs.Differences.{gap}
use Rattle.minutes.proofs.Gaps.{Round, gap_is, gap_up}
use Rattle.relations.specs.ExactNarrowing.{has}
use Rattle.journeys.specs.Lengths.{no_way, least, ahead, behind}
use Rattle.journeys.proofs.Leasts.{least_small, least_some, least_le}

-- v is the least of g below n, or `no_way`
record Least (n : ℕ) (g : ℕ → ℕ) (v : ℕ) : Type 0 where
  small : v ≤ 1000
  below : (a : ℕ) → a < n → v ≤ g a
  attained : (v ≡ 1000) ⊎ ((a : ℕ) × (a < n) × (g a ≡ v))

is_least : (n : ℕ) (g : ℕ → ℕ) → Least n g (least n g)
is_least n g = record {
  small = least_small n g;
  below = least_le n g;
  attained = elim (cases_lt (least n g) 1000) [
    | inl l ↦ let r = least_some n g (least n g) (omega arith) l in inr (r.0, r.1, omega (arith, r.2, least_le n g r.0 r.1))
    | inr l ↦ inl (omega (arith, least_small n g))
  ];
}

least_is : (n : ℕ) (g : ℕ → ℕ) (v : ℕ) → Least n g v → v ≡ least n g
least_is n g v h = omega (arith, low h.attained, high (is_least n g).attained)
  where
    low : (v ≡ 1000) ⊎ ((a : ℕ) × (a < n) × (g a ≡ v)) → least n g ≤ v
    low (inl e) = omega (arith, least_small n g)
    low (inr r) = omega (arith, least_le n g r.0 r.1, r.2)

    high : (least n g ≡ 1000) ⊎ ((a : ℕ) × (a < n) × (g a ≡ least n g)) → v ≤ least n g
    high (inl e) = omega (arith, h.small)
    high (inr r) = omega (arith, h.below r.0 r.1, r.2)

-- where every other minute is one further than before, and b itself is there
scan_step : (n : ℕ) (F d e : ℕ → ℕ) (b w v : ℕ) → b < n → F b ≤ 1000 → d b ≡ 0 → ((a : ℕ) → a < n → (a ≡ b → ⊥) → d a ≡ e a + 1) →
    Least n (λ a. F a + e a) w → v ≡ min (w + 1) (F b) → Least n (λ a. F a + d a) v
scan_step n F d e b w v hb small here further h q = record {
  small = omega arith;
  below = λ a l. elim (cases_eq a b) [
    | inl z ↦ subst (λ c. v ≤ F c + d c) (sym z) (omega arith)
    | inr z ↦ omega (arith, further a l z, h.below a l)
  ];
  attained = elim (cases_lt (w + 1) (F b)) [
    | inl u ↦ before u h.attained
    | inr u ↦ inr (b, hb, omega arith)
  ];
}
  where
    before : w + 1 < F b → (w ≡ 1000) ⊎ ((a : ℕ) × (a < n) × (F a + e a ≡ w)) → (v ≡ 1000) ⊎ ((a : ℕ) × (a < n) × (F a + d a ≡ v))
    before u (inl z) = absurd (omega arith)
    before u (inr r) = elim (cases_eq r.0 b) [
      | inl z ↦ absurd (omega (arith, subst (λ c. F c + e c ≡ w) z r.2))
      | inr z ↦ inr (r.0, r.1, omega (arith, further r.0 r.1 z, r.2))
    ]

-- forward: the minute before b
further : (T a b p x y : ℕ) → a < T → b < T → (a ≡ b → ⊥) → Round T 1 b p → Round T a p x → Round T a b y → y ≡ x + 1
further T a b p x y la lb n h k j = elim (cases_lt a b) [
  | inl u ↦ omega (arith, h.below, k.below, j.below, h.sum, k.sum, j.sum)
  | inr u ↦ let v : b < a = omega (arith, n' u) in omega (arith, h.below, k.below, j.below, h.sum, k.sum, j.sum)
]
  where
    n' : b ≤ a → b < a
    n' u = elim (cases_lt b a) [ inl l ↦ l | inr l ↦ absurd (n (omega arith)) ]

pub ahead_step : (T b best next : ℕ) (F : ℕ → ℕ) → b < T → F b ≤ 1000 → best ≡ least T (λ a. F a + gap T a (gap T 1 b)) → next ≡ min (best + 1) (F b) →
    next ≡ least T (λ a. F a + gap T a b)
ahead_step T b best next F l small h q = least_is T (λ a. F a + gap T a b) next
    (scan_step T F (λ a. gap T a b) (λ a. gap T a (gap T 1 b)) b best next l small (gap_up T b b (omega arith) l ∙ zero)
    (λ a la n. further T a b (gap T 1 b) _ _ la l n before (gap_is T a (gap T 1 b) (omega arith) before.below) (gap_is T a b (omega arith) l))
    (subst (Least T (λ a. F a + gap T a (gap T 1 b))) (sym h) (is_least T (λ a. F a + gap T a (gap T 1 b)))) q)
  where
    zero : b - b ≡ 0
    zero = omega arith

    before : Round T 1 b (gap T 1 b)
    before = gap_is T 1 b (omega arith) l

pub next_before : (T b : ℕ) → b < T → gap T 1 (b + 1) ≡ b
next_before T b l = let e : b + 1 + T - 1 ≡ b + T = omega arith in ap (λ n. n % T) e ∙ add-mod_right b T ∙ mod-eq_of_lt l

pub last_before : (T : ℕ) → 0 < T → T - 1 ≡ gap T 1 0
last_before T h =
    let e : 0 + T - 1 ≡ T - 1 = omega arith in
    let l : T - 1 < T = omega arith in
    sym (ap (λ n. n % T) e ∙ mod-eq_of_lt l)

-- the length by a minute of the set, or none
abbrev pub by : ℕ → (ℕ → ℕ) → ℕ → ℕ
by s N b = cond (has b s) (N b) no_way

pub by_small : (s : ℕ) (N : ℕ → ℕ) (b : ℕ) → N b ≤ 1000 → by s N b ≤ 1000
by_small s N b h = cond_both (has b s) (N b) no_way (λ z. z ≤ 1000) (λ e. h) (λ e. omega arith)

least_by : (n s : ℕ) (N x : ℕ → ℕ) (v : ℕ) → Least n (λ b. by s N b + x b) v → Least n (λ b. cond (has b s) (x b + N b) no_way) v
least_by n s N x v h = record {
  small = h.small;
  below = λ b l. elim (cases_Bool (has b s)) [
    | inl e ↦ omega (arith, h.below b l, cond-true (has b s) (x b + N b) no_way e, cond-true (has b s) (N b) no_way e)
    | inr e ↦ omega (arith, h.small, cond-false (has b s) (x b + N b) no_way e)
  ];
  attained = elim h.attained [
    | inl e ↦ inl e
    | inr r ↦ elim (cases_Bool (has r.0 s)) [
      | inl e ↦ inr (r.0, r.1, omega (arith, r.2, cond-true (has r.0 s) (x r.0 + N r.0) no_way e, cond-true (has r.0 s) (N r.0) no_way e))
      | inr e ↦ inl (omega (arith, r.2, h.small, cond-false (has r.0 s) (N r.0) no_way e))
    ]
  ];
}

-- minutes and their ways, read backwards
turned_gap : (T a b x y : ℕ) → a < T → b < T → Round T (T - 1 - b) (T - 1 - a) x → Round T a b y → x ≡ y
turned_gap T a b x y la lb h k = omega (arith, h.below, k.below, h.sum, k.sum)

turned : (T a b : ℕ) → a < T → b < T → gap T (T - 1 - b) (T - 1 - a) ≡ gap T a b
turned T a b la lb = turned_gap T a b _ _ la lb (gap_is T (T - 1 - b) (T - 1 - a) (omega arith) (omega arith)) (gap_is T a b (omega arith) lb)

pub backwards : (T s m : ℕ) (N R : ℕ → ℕ) → m < T → ((c : ℕ) → c < T → R c ≡ by s N (T - 1 - c)) →
    ahead T R (T - 1 - m) ≡ behind T N s m
backwards T s m N R l e = least_is T (λ b. cond (has b s) (gap T m b + N b) no_way) (ahead T R (T - 1 - m)) (least_by T s N (gap T m) (ahead T R (T - 1 - m)) (record {
  small = h.small;
  below = λ b u.
      let t : T - 1 - b < T = omega arith in
      let w : T - 1 - (T - 1 - b) ≡ b = omega arith in
      omega (arith, h.below (T - 1 - b) t, turned T m b l u, e (T - 1 - b) t, ap (by s N) w);
  attained = elim h.attained [
    | inl z ↦ inl z
    | inr r ↦
        let c : ℕ = r.0 in
        let lc : c < T = r.1 in
        let t : T - 1 - c < T = omega arith in
        let w : T - 1 - (T - 1 - c) ≡ c = omega arith in
        inr (T - 1 - c, t, omega (arith, r.2, turned T m (T - 1 - c) l t, ap (λ z. gap T z (T - 1 - m)) w, e c lc))
  ];
}))
  where
    h : Least T (λ a. R a + gap T a (T - 1 - m)) (ahead T R (T - 1 - m))
    h = is_least T (λ a. R a + gap T a (T - 1 - m))
