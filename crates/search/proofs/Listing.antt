-- Numberings of prefixes, earliest first.
use Rattle.std.proofs.Common.{◌≡◌, ℕ, zero, suc, ◌<◌, ◌≤◌, cond, ltb, ◌⊎◌, List, sym, ap, ◌∙◌, subst, inl, inr, arith}
use Rattle.std.proofs.lemmas.Bool.{cases_order, cases_lt, cond-true, cond-false, lt-ltb, le-ltb}
use Rattle.minutes.specs.Minutes.{Before}
use Rattle.search.specs.Search.{Listed}
use Rattle.search.proofs.Orders.{before_irreflexive, before_trans}

pub listed_same : (P Q : List ℕ → Type 0) (n : ℕ) (nth : ℕ → List ℕ) → ((p : List ℕ) → P p → Q p) → ((p : List ℕ) → Q p → P p) → Listed P n nth → Listed Q n nth
listed_same P Q n nth f g h = record { rising = h.rising; holds = λ i l. f (nth i) (h.holds i l); all = λ p k. h.all p (g p k) }

abbrev pub more : (ℕ → List ℕ) → ℕ → List ℕ → ℕ → List ℕ
more nth n e i = cond (ltb i n) (nth i) e

pub more_low : (nth : ℕ → List ℕ) (n : ℕ) (e : List ℕ) (i : ℕ) → i < n → more nth n e i ≡ nth i
more_low nth n e i h = cond-true (ltb i n) (nth i) e (lt-ltb i n h)

pub more_at : (nth : ℕ → List ℕ) (n : ℕ) (e : List ℕ) → more nth n e n ≡ e
more_at nth n e = cond-false (ltb n n) (nth n) e (le-ltb n n (omega arith))

pub listed_more : (P Q : List ℕ → Type 0) (n : ℕ) (nth : ℕ → List ℕ) (e : List ℕ) → Listed P n nth
    → ((p : List ℕ) → P p → Q p) → Q e → ((p : List ℕ) → Q p → P p ⊎ (p ≡ e)) → ((p : List ℕ) → P p → Before p e) → Listed Q (suc n) (more nth n e)
listed_more P Q n nth e h up new split last = record { rising = rising; holds = holds; all = all }
  where
    end : (i : ℕ) → n ≤ i → i < suc n → more nth n e i ≡ e
    end i l g = subst (λ z. more nth n e z ≡ e) (let q : n ≡ i = omega arith in q) (more_at nth n e)

    rising : (i j : ℕ) → i < j → j < suc n → Before (more nth n e i) (more nth n e j)
    rising i j l g = rw (more_low nth n e i (omega arith)) (elim (cases_lt j n) [
      | inl u ↦ rw (more_low nth n e j u) (h.rising i j l u)
      | inr u ↦ rw (end j u g) (last (nth i) (h.holds i (omega arith)))
    ])

    holds : (i : ℕ) → i < suc n → Q (more nth n e i)
    holds i l = elim (cases_lt i n) [ inl u ↦ rw (more_low nth n e i u) (up (nth i) (h.holds i u)) | inr u ↦ rw (end i u l) new ]

    all : (p : List ℕ) → Q p → (i : ℕ) × (i < suc n) × (more nth n e i ≡ p)
    all p k = elim (split p k) [
      | inl u ↦ let r = h.all p u in (r.0, omega (arith, r.1), more_low nth n e r.0 r.1 ∙ r.2)
      | inr u ↦ (n, omega arith, more_at nth n e ∙ sym u)
    ]

-- two numberings of the same agree
module _ (P : List ℕ → Type 0) (n m : ℕ) (a b : ℕ → List ℕ) (f : Listed P n a) (g : Listed P m b) where
  clash : (i j : ℕ) → i < j → j < n → a i ≡ a j → ⊥
  clash i j l h e = before_irreflexive (a j) (subst (λ z. Before z (a j)) e (f.rising i j l h))

  agree : (k i : ℕ) → i < k → i < n → (i < m) × (a i ≡ b i)
  agree zero i l h = absurd (omega arith)
  agree (suc k) i l h = elim (cases_lt i k) [ inl u ↦ agree k i u h | inr u ↦ here (λ j v. agree k j (omega arith) (omega arith)) ]
    where
      here : ((j : ℕ) → j < i → (j < m) × (a j ≡ b j)) → (i < m) × (a i ≡ b i)
      here ih = go (g.all (a i) (f.holds i h))
        where
          go : (j : ℕ) × (j < m) × (b j ≡ a i) → (i < m) × (a i ≡ b i)
          go r = elim (cases_order r.0 i) [
            | inl e ↦ (omega (arith, r.1), sym r.2 ∙ ap b e)
            | inr (inl u) ↦ absurd (clash r.0 i u h ((ih r.0 u).1 ∙ r.2))
            | inr (inr u) ↦ absurd (far (f.all (b i) (g.holds i (omega (arith, r.1)))) u)
          ]
            where
              far : (t : ℕ) × (t < n) × (a t ≡ b i) → i < r.0 → ⊥
              far s u = elim (cases_order s.0 i) [
                | inl e ↦ before_irreflexive (b i) (subst (λ z. Before (b i) z) (r.2 ∙ ap a (sym e) ∙ s.2) (g.rising i r.0 u r.1))
                | inr (inl v) ↦ before_irreflexive (b i) (subst (λ z. Before z (b i)) (sym (ih s.0 v).1 ∙ s.2) (g.rising s.0 i v (omega (arith, r.1))))
                | inr (inr v) ↦ before_irreflexive (a i) (before_trans (a i) (b i) (a i) (subst (λ z. Before (a i) z) s.2 (f.rising i s.0 v s.1)) (subst (λ z. Before (b i) z) r.2 (g.rising i r.0 u r.1)))
              ]

  pub agrees : (i : ℕ) → i < n → (i < m) × (a i ≡ b i)
  agrees i h = agree (suc i) i (omega arith) h

pub same_number : (P : List ℕ → Type 0) (n m : ℕ) (a b : ℕ → List ℕ) → Listed P n a → Listed P m b → n ≡ m
same_number P n m a b f g = elim (cases_order n m) [
  | inl e ↦ e
  | inr (inl l) ↦ absurd (omega (arith, (agrees P m n b a g f n l).0))
  | inr (inr l) ↦ absurd (omega (arith, (agrees P n m a b f g m l).0))
]
