-- A set gathered minute by minute.
use Rattle.std.proofs.Common.{◌≡◌, ℕ, ◌+◌, ◌*◌, ◌%◌, ◌^◌, ◌<◌, Bool, true, false, sym, ap, ◌∙◌, subst, inl, inr, arith, below_more}
use lib.Bits.{bit_or}
use Rattle.std.proofs.lemmas.Bool.{both_ways}
use Rattle.std.proofs.lemmas.Nat.{one_shl}
use Rattle.minutes.specs.Minutes.{In}
use Rattle.relations.specs.ExactNarrowing.{those}
use Rattle.minutes.proofs.Sets.{same_sets, in_pow, pow_in}
use Rattle.relations.proofs.Tests.{in_those, those_in}
use Rattle.minutes.proofs.Bits.{in_or, or_left, or_right}

pub those_yes : (n : ℕ) (p : ℕ → Bool) (s : ℕ) → n < 64 → s ≡ those n p → p n ≡ true → bit_or s ((1 * 2 ^ n) % 2 ^ 64) ≡ those (n + 1) p
those_yes n p s l e h = ap (bit_or s) (one_shl n 64 l) ∙ ap (λ z. bit_or z (2 ^ n)) e ∙ same_sets _ _
    (λ m i. elim (in_or (those n p) (2 ^ n) m i) [
      | inl a ↦ let r = in_those n p m a in those_in (n + 1) p m (omega (arith, r.0)) r.1
      | inr b ↦ let q = in_pow m n b in those_in (n + 1) p m (omega arith) (subst (λ z. p z ≡ true) (sym q) h)
    ])
    (λ m i. let r = in_those (n + 1) p m i in
    below_more (λ m. p m ≡ true → In m (bit_or (those n p) (2 ^ n))) n
    (λ m k y. or_left (those n p) (2 ^ n) m (those_in n p m k y)) (λ y. or_right (those n p) (2 ^ n) n (pow_in n)) m r.0 r.1)

pub those_no : (n : ℕ) (p : ℕ → Bool) (s : ℕ) → s ≡ those n p → p n ≡ false → s ≡ those (n + 1) p
those_no n p s e h = e ∙ same_sets _ _
    (λ m i. let r = in_those n p m i in those_in (n + 1) p m (omega (arith, r.0)) r.1)
    (λ m i. let r = in_those (n + 1) p m i in
    below_more (λ m. p m ≡ true → In m (those n p)) n (λ m k y. those_in n p m k y) (λ y. absurd (both_ways (p n) h y)) m r.0 r.1)

pub those_cong : (n : ℕ) (p q : ℕ → Bool) → ((m : ℕ) → m < n → p m ≡ q m) → those n p ≡ those n q
those_cong n p q e = same_sets _ _
    (λ m i. let r = in_those n p m i in those_in n q m r.0 (sym (e m r.0) ∙ r.1))
    (λ m i. let r = in_those n q m i in those_in n p m r.0 (e m r.0 ∙ r.1))
