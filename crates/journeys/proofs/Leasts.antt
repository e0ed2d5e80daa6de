-- Steps of least lengths.
use Rattle.std.proofs.Common.{◌≡◌, ℕ, zero, suc, ◌+◌, ◌<◌, ◌≤◌, min, List, length, get_or, set, replicate, sym, refl, ap, ◌∙◌, subst, inl, inr, arith, below_more}
use Rattle.std.proofs.lemmas.Bool.{cases_eq, cases_lt}
use Rattle.std.proofs.lemmas.List.{length-set, get_or-set_same, get_or-set_other, length-replicate, get_or-replicate}
use Rattle.minutes.specs.Minutes.{at}
use Rattle.journeys.specs.Lengths.{no_way, least}

pub least_small : (n : ℕ) (g : ℕ → ℕ) → least n g ≤ 1000
least_small zero g = omega arith
least_small (suc n) g = omega (arith, least_small n g)

-- a least value below no_way is one of the values
pub least_some : (n : ℕ) (g : ℕ → ℕ) (v : ℕ) → least n g ≤ v → v < no_way → (a : ℕ) × (a < n) × (g a ≤ v)
least_some zero g v h l = absurd (omega arith)
least_some (suc n) g v h l = elim (cases_lt v (g n)) [
  | inl u ↦ let r = least_some n g v (omega arith) l in (r.0, omega (arith, r.1), r.2)
  | inr u ↦ (n, omega arith, u)
]

pub least_le : (n : ℕ) (g : ℕ → ℕ) (a : ℕ) → a < n → least n g ≤ g a
least_le zero g a h = absurd (omega arith)
least_le (suc n) g a h = elim (cases_lt a n) [
  | inl u ↦ omega (arith, least_le n g a u)
  | inr u ↦ let e : n ≡ a = omega arith in subst (λ z. least (suc n) g ≤ g z) e (omega arith)
]

pub least_more : (n : ℕ) (g : ℕ → ℕ) (best v : ℕ) → best ≡ least n g → v ≡ min best (g n) → v ≡ least (n + 1) g
least_more n g best v e h = h ∙ ap (λ z. min z (g n)) e ∙ ap (λ k. least k g) (let k : suc n ≡ n + 1 = omega arith in k)

pub least_cong : (n : ℕ) (g h : ℕ → ℕ) → ((m : ℕ) → m < n → g m ≡ h m) → least n g ≡ least n h
least_cong zero g h e = refl
least_cong (suc n) g h e = let a = least_cong n g h (λ m l. e m (omega arith)) in let b = e n (omega arith) in λ i. min (a i) (b i)

-- a row of 64 lengths that has g's value at each minute below n
pub record Filled (n : ℕ) (g : ℕ → ℕ) (row : List ℕ) : Type 0 where
  pub len : length row ≡ 64
  pub value : (m : ℕ) → m < n → at row m ≡ g m
  pub small : (m : ℕ) → at row m ≤ 1000

pub row_none : (g : ℕ → ℕ) (v : ℕ) → v ≤ 1000 → Filled 0 g (replicate 64 v)
row_none g v h = record {
  len = length-replicate {A = ℕ} 64 v;
  value = λ m l. absurd (omega arith);
  small = λ m. elim (cases_lt m 64) [ inl l ↦ omega (arith, get_or-replicate 64 m v 0 l) | inr l ↦ omega (arith, past 64 m v l) ];
}
  where
    past : (n m v : ℕ) → n ≤ m → get_or (replicate n v) m 0 ≡ 0
    past zero m v h = refl
    past (suc n) zero v h = absurd (omega arith)
    past (suc n) (suc m) v h = past n m v (omega arith)

pub row_more : (n : ℕ) (g : ℕ → ℕ) (row : List ℕ) (v : ℕ) → n < 64 → Filled n g row → v ≡ g n → v ≤ 1000 → Filled (n + 1) g (set row n v)
row_more n g row v l r e h = record {
  len = length-set row n v ∙ r.len;
  value = below_more (λ m. at (set row n v) m ≡ g m) n
      (λ m k. get_or-set_other row n m v 0 (λ z. omega arith) ∙ r.value m k)
      (get_or-set_same row n v 0 (omega (arith, r.len)) ∙ e);
  small = λ m. elim (cases_eq m n) [
    | inl q ↦ subst (λ z. at (set row n v) z ≤ 1000) (sym q) (omega (arith, get_or-set_same row n v 0 (omega (arith, r.len))))
    | inr q ↦ omega (arith, get_or-set_other row n m v 0 q, r.small m)
  ];
}
