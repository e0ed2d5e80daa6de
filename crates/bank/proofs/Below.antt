-- Steps of the test that each minute is below T.
use Rattle.std.proofs.Common.{◌≡◌, ℕ, zero, suc, ◌+◌, ◌<◌, ◌≤◌, true, false, ◌&&◌, ltb, List, [], ◌∷◌, length, get_or, drop, sym, ap, ◌∙◌, arith}
use Rattle.std.proofs.lemmas.Bool.{lt-ltb, le-ltb, ltb-true, and_parts}
use Rattle.std.proofs.lemmas.List.{at_drop_more, at_drop_all}
use Rattle.bank.specs.Calls.{all_below}

pub below_stop : (T : ℕ) (xs : List ℕ) (i : ℕ) → i < length xs → T ≤ get_or xs i 0 → all_below T (drop i xs) ≡ all_below T xs → false ≡ all_below T xs
below_stop T xs i l h e = sym (ap (λ b. b && all_below T (drop (i + 1) xs)) (le-ltb (get_or xs i 0) T h)) ∙ sym (at_drop_more (all_below T) xs i 0 l) ∙ e

pub below_next : (T : ℕ) (xs : List ℕ) (i : ℕ) → i < length xs → get_or xs i 0 < T → all_below T (drop i xs) ≡ all_below T xs → all_below T (drop (i + 1) xs) ≡ all_below T xs
below_next T xs i l h e = sym (ap (λ b. b && all_below T (drop (i + 1) xs)) (lt-ltb (get_or xs i 0) T h)) ∙ sym (at_drop_more (all_below T) xs i 0 l) ∙ e

pub below_end : (T : ℕ) (xs : List ℕ) (i : ℕ) → length xs ≤ i → all_below T (drop i xs) ≡ all_below T xs → true ≡ all_below T xs
below_end T xs i l e = sym (at_drop_all (all_below T) xs i l) ∙ e

-- what the test says of a place
pub below_at : (T : ℕ) (xs : List ℕ) (i : ℕ) → all_below T xs ≡ true → i < length xs → get_or xs i 0 < T
below_at T [] i h l = absurd (omega arith)
below_at T (x ∷ xs) zero h l = ltb-true x T (and_parts _ _ h).0
below_at T (x ∷ xs) (suc i) h l = below_at T xs i (and_parts (ltb x T) _ h).1 (omega arith)
