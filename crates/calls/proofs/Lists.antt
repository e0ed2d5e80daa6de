-- A list of calls that grows by one, and a family that loses minutes.
use Rattle.std.proofs.Common.{◌≡◌, ℕ, zero, suc, ◌+◌, ◌-◌, ◌^◌, ◌<◌, ◌≤◌, Bool, eqb, List, [], ◌∷◌, ◌++◌, length, set, replicate, refl, ap, ◌∙◌, arith}
use lib.Bits.{bit_and}
use Rattle.std.proofs.lemmas.Bool.{cond-true, cond-false, eq-eqb, ne_eqb}
use Rattle.minutes.specs.Minutes.{at}
use Rattle.calls.specs.Calls.{Call, Ledger, allowed, allowed_set, allowed_from, family, step, after, ledger}

after_push : (T E n : ℕ) (l : Ledger) (cs : List Call) (c : Call) → after T E n l (cs ++ c ∷ []) ≡ step T E (n + length cs) (after T E n l cs) c
after_push T E n l [] c = ap (λ k. step T E k l c) (let e : n ≡ n + 0 = omega arith in e)
after_push T E n l (d ∷ cs) c =
    after_push T E (suc n) (step T E n l d) cs c
    ∙ ap (λ k. step T E k (after T E (suc n) (step T E n l d) cs) c) (let e : suc n + length cs ≡ n + suc (length cs) = omega arith in e)

-- one more call
pub ledger_push : (T E : ℕ) (cs : List Call) (c : Call) → ledger T E (cs ++ c ∷ []) ≡ step T E (length cs) (ledger T E cs) c
ledger_push T E cs c = after_push T E 0 [] cs c ∙ ap (λ k. step T E k (ledger T E cs) c) (let e : 0 + length cs ≡ length cs = omega arith in e)

pub from_length : (T : ℕ) (l : Ledger) (v n : ℕ) → length (allowed_from T l v n) ≡ n
from_length T l v zero = refl
from_length T l v (suc n) = ap suc (from_length T l (suc v) n)

pub from_at : (T : ℕ) (l : Ledger) (v n i : ℕ) → i < n → at (allowed_from T l v n) i ≡ allowed_set T l (v + i)
from_at T l v zero i h = absurd (omega arith)
from_at T l v (suc n) zero h = ap (allowed_set T l) (let e : v ≡ v + 0 = omega arith in e)
from_at T l v (suc n) (suc i) h = from_at T l (suc v) n i (omega arith) ∙ ap (allowed_set T l) (let e : suc v + i ≡ v + suc i = omega arith in e)

-- with no allow every minute of the period is allowed
pub family_new : (T v n : ℕ) → allowed_from T [] v n ≡ replicate n (2 ^ T - 1)
family_new T v zero = refl
family_new T v (suc n) = ap (λ z. (2 ^ T - 1) ∷ z) (family_new T (suc v) n)

-- one more allow cuts the set of its event
module _ (T c : ℕ) (s : ℕ) (b : Bool) (l : Ledger) where
  cut_past : (e v n : ℕ) → e < v → allowed_from T (allowed c e s b ∷ l) v n ≡ allowed_from T l v n
  cut_past e v zero h = refl
  cut_past e v (suc n) h =
      let x : allowed_set T (allowed c e s b ∷ l) v ≡ allowed_set T l v = cond-false (eqb e v) _ _ (ne_eqb e v (omega arith)) in
      let y = cut_past e (suc v) n (omega arith) in λ i. x i ∷ y i

  cut_from : (e v n k : ℕ) → e ≡ v + k → k < n → allowed_from T (allowed c e s b ∷ l) v n ≡ set (allowed_from T l v n) k (bit_and (at (allowed_from T l v n) k) s)
  cut_from e v zero k h u = absurd (omega arith)
  cut_from e v (suc n) zero h u =
      let x : allowed_set T (allowed c e s b ∷ l) v ≡ bit_and (allowed_set T l v) s = cond-true (eqb e v) _ _ (eq-eqb e v (omega arith)) in
      let y = cut_past e (suc v) n (omega arith) in λ i. x i ∷ y i
  cut_from e v (suc n) (suc k) h u =
      let x : allowed_set T (allowed c e s b ∷ l) v ≡ allowed_set T l v = cond-false (eqb e v) _ _ (ne_eqb e v (omega arith)) in
      let y = cut_from e (suc v) n k (omega arith) (omega arith) in λ i. x i ∷ y i

  pub family_cut : (E e : ℕ) → 0 < e → e ≤ E → family T E (allowed c e s b ∷ l) ≡ set (family T E l) (e - 1) (bit_and (at (family T E l) (e - 1)) s)
  family_cut E e h u = cut_from e 1 E (e - 1) (omega arith) (omega arith)
