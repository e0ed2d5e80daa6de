-- Families held to a prefix.
use Rattle.std.proofs.Common.{◌≡◌, ℕ, zero, suc, ◌/◌, ◌%◌, ◌^◌, ◌<◌, ◌≤◌, ◌⊎◌, List, [], ◌∷◌, length, sym, refl, ap, ◌∙◌, subst, inl, inr, one-mul, pow-suc, zero-mul, arith}
use Rattle.std.proofs.lemmas.Bool.{cases_lt}
use Rattle.std.proofs.lemmas.List.{get_or_past}
use Rattle.minutes.specs.Minutes.{Within, Sub, In, at, Lies}
use Rattle.search.specs.Search.{only, held, Begins}
use Rattle.minutes.proofs.Sets.{bit_cases, up, no_minute, some_minute, in_pow, pow_in}

pub only_in : (m s : ℕ) → In m s → only m s ≡ 2 ^ m
only_in m s h = rw h (one-mul (2 ^ m))

pub only_out : (m s : ℕ) → s / 2 ^ m % 2 ≡ 0 → only m s ≡ 0
only_out m s h = rw h (zero-mul (2 ^ m))

pub in_only : (t m s : ℕ) → In t (only m s) → (t ≡ m) × In m s
in_only t m s h = go (bit_cases m s)
  where
    go : In m s ⊎ (s / 2 ^ m % 2 ≡ 0) → (t ≡ m) × In m s
    go (inl i) = (in_pow t m (rw (only_in m s i) at h), i)
    go (inr z) = absurd (no_minute t (rw (only_out m s z) at h))

pub only_has : (m s : ℕ) → In m s → In m (only m s)
only_has m s h = rw (only_in m s h) (pow_in m)

-- a set whose minutes are below T is a number below 2 ^ T
pub few_minutes : (T s : ℕ) → ((m : ℕ) → In m s → m < T) → s < 2 ^ T
few_minutes zero s h = elim (cases_lt 0 s) [ inl l ↦ let r = some_minute s l in absurd (omega (arith, h r.0 r.1)) | inr l ↦ omega arith ]
few_minutes (suc T) s h = omega (arith, few_minutes T (s / 2) (λ m i. omega (arith, h (suc m) (up m s i))), pow-suc 2 T)

pub held_length : (p a : List ℕ) → length (held p a) ≡ length a
held_length [] a = refl
held_length (m ∷ p) [] = refl
held_length (m ∷ p) (s ∷ a) = ap suc (held_length p a)

pub held_in : (p a : List ℕ) (i : ℕ) → i < length p → i < length a → at (held p a) i ≡ only (at p i) (at a i)
held_in [] a i h l = absurd (omega arith)
held_in (m ∷ p) [] i h l = absurd (omega arith)
held_in (m ∷ p) (s ∷ a) zero h l = refl
held_in (m ∷ p) (s ∷ a) (suc i) h l = held_in p a i (omega arith) (omega arith)

pub held_out : (p a : List ℕ) (i : ℕ) → length p ≤ i → at (held p a) i ≡ at a i
held_out [] a i h = refl
held_out (m ∷ p) [] i h = refl
held_out (m ∷ p) (s ∷ a) zero h = absurd (omega arith)
held_out (m ∷ p) (s ∷ a) (suc i) h = held_out p a i (omega arith)

-- a longer prefix holds less
pub held_mono : (p q a : List ℕ) → Begins q p → Within (held p a) (held q a)
held_mono p q a b = record { len = held_length p a ∙ sym (held_length q a); sub = λ i. go i (cases_lt i (length a)) (cases_lt i (length q)) (cases_lt i (length p)) }
  where
    go : (i : ℕ) → (i < length a) ⊎ (length a ≤ i) → (i < length q) ⊎ (length q ≤ i) → (i < length p) ⊎ (length p ≤ i) → Sub (at (held p a) i) (at (held q a) i)
    go i (inr z) x y t h = let e : at (held p a) i ≡ at (held q a) i = get_or_past (held p a) i 0 (omega (arith, held_length p a)) ∙ sym (get_or_past (held q a) i 0 (omega (arith, held_length q a))) in rw e at h
    go i (inl l) (inl u) (inr v) t h = absurd (omega (arith, b.shorter))
    go i (inl l) (inr u) (inr v) t h = let e : at (held p a) i ≡ at (held q a) i = held_out p a i v ∙ sym (held_out q a i u) in rw e at h
    go i (inl l) (inl u) (inl v) t h = let e : at (held p a) i ≡ at (held q a) i = held_in p a i v l ∙ ap (λ z. only z (at a i)) (sym (b.same i u)) ∙ sym (held_in q a i u l) in rw e at h
    go i (inl l) (inr u) (inl v) t h =
        let k = in_only t (at p i) (at a i) (rw (held_in p a i v l) at h) in
        rw (held_out q a i u) (subst (λ z. In z (at a i)) (sym k.0) k.1)

pub lies_held : (p x a : List ℕ) → Begins p x → Lies x a → Lies x (held p a)
lies_held p x a b l = record { len = l.len ∙ sym (held_length p a); each = λ i h. go i h (cases_lt i (length p)) }
  where
    go : (i : ℕ) → i < length x → (i < length p) ⊎ (length p ≤ i) → In (at x i) (at (held p a) i)
    go i h (inl u) = rw (held_in p a i u (omega (arith, l.len))) (rw (b.same i u) (only_has (at x i) (at a i) (l.each i h)))
    go i h (inr u) = rw (held_out p a i u) (l.each i h)
