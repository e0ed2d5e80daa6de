-- Ledgers in which the numbers of the calls fall, and what closing the last level leaves of one.
use Rattle.std.proofs.Common.{◌≡◌, ℕ, ◌<◌, ◌≤◌, Bool, cond, ltb, [], ◌∷◌, sym, refl, ap, ◌∙◌, inl, inr, arith}
use Rattle.std.proofs.lemmas.Bool.{cond-true, cond-false, lt-ltb, le-ltb}
use Rattle.calls.specs.Calls.{Standing, level, allowed, Ledger, closed, levels_of}
use Rattle.calls.specs.Laws.{Among}

-- the number of the call that an item of the ledger comes from
abbrev pub number : Standing → ℕ
number (level c) = c
number (allowed c e s b) = c

-- each number is below n, and below those before it
abbrev pub Falls : ℕ → Ledger → Type 0
Falls n [] = Unit {0}
Falls n (x ∷ l) = (number x < n) × Falls (number x) l

pub falls_more : (n m : ℕ) (l : Ledger) → n ≤ m → Falls n l → Falls m l
falls_more n m [] h f = tt
falls_more n m (x ∷ l) h f = (omega (arith, f.0), f.1)

pub falls_at : (n : ℕ) (l : Ledger) (x : Standing) → Falls n l → Among x l → number x < n
falls_at n [] x f a = absurd a
falls_at n (y ∷ l) x f (inl e) = omega (arith, ap number e, f.0)
falls_at n (y ∷ l) x f (inr a) = omega (arith, falls_at (number y) l x f.1 a, f.0)

-- no two items have the same number
pub falls_one : (n : ℕ) (l : Ledger) (x y : Standing) → Falls n l → Among x l → Among y l → number x ≡ number y → x ≡ y
falls_one n [] x y f a b e = absurd a
falls_one n (z ∷ l) x y f (inl a) (inl b) e = a ∙ sym b
falls_one n (z ∷ l) x y f (inl a) (inr b) e = absurd (omega (arith, ap number a, falls_at (number z) l y f.1 b))
falls_one n (z ∷ l) x y f (inr a) (inl b) e = absurd (omega (arith, ap number b, falls_at (number z) l x f.1 a))
falls_one n (z ∷ l) x y f (inr a) (inr b) e = falls_one (number z) l x y f.1 a b e

pub falls_closed : (n : ℕ) (l : Ledger) → Falls n l → Falls n (closed l)
falls_closed n [] f = tt
falls_closed n (level c ∷ l) f = falls_more c n l (omega (arith, f.0)) f.1
falls_closed n (allowed c e s b ∷ l) f = falls_closed n l (falls_more c n l (omega (arith, f.0)) f.1)

pub level_is : (p q : ℕ) → level p ≡ level q → p ≡ q
level_is p q e = cc

pub level_not : (p c e s : ℕ) (b : Bool) → level p ≡ allowed c e s b → ⊥
level_not p c e s b h = let z : ◌≡◌ {A = ℕ} 0 1 = cc in omega arith

pub levels_under : (l : Ledger) (x : Standing) → Among x (closed l) → Among x l
levels_under [] x a = absurd a
levels_under (level c ∷ l) x a = inr a
levels_under (allowed c e s b ∷ l) x a = inr (levels_under l x a)

-- what is left when the last level is closed came before that level
pub closed_last : (n : ℕ) (l : Ledger) (x : Standing) → Falls n l → Among x (closed l) → (q : ℕ) × (number x < q) × Among (level q) l
closed_last n [] x f a = absurd a
closed_last n (level c ∷ l) x f a = (c, falls_at c l x f.1 a, inl refl)
closed_last n (allowed c e s b ∷ l) x f a = let r = closed_last c l x f.1 a in (r.0, r.1, inr r.2)

-- what came before some level is left
pub closed_keeps : (n : ℕ) (l : Ledger) (x : Standing) (q : ℕ) → Falls n l → Among x l → Among (level q) l → number x < q → Among x (closed l)
closed_keeps n [] x q f a b h = absurd a
closed_keeps n (level c ∷ l) x q f (inr a) b h = a
closed_keeps n (level c ∷ l) x q f (inl e) (inl d) h = absurd (omega (arith, ap number e, level_is q c d))
closed_keeps n (level c ∷ l) x q f (inl e) (inr b) h = absurd (omega (arith, ap number e, falls_at c l (level q) f.1 b))
closed_keeps n (allowed c e s k ∷ l) x q f a (inl d) h = absurd (level_not q c e s k d)
closed_keeps n (allowed c e s k ∷ l) x q f (inl d) (inr b) h = absurd (omega (arith, ap number d, falls_at c l (level q) f.1 b))
closed_keeps n (allowed c e s k ∷ l) x q f (inr a) (inr b) h = closed_keeps c l x q f.1 a b h

-- the level opened last, where there is one
pub last_level : (n : ℕ) (l : Ledger) → Falls n l → 0 < levels_of l → (q : ℕ) × Among (level q) l × ((r : ℕ) → Among (level r) l → r ≤ q)
last_level n [] f h = absurd (omega arith)
last_level n (level c ∷ l) f h = (c, inl refl, λ r a. top r a)
  where
    top : (r : ℕ) → Among (level r) (level c ∷ l) → r ≤ c
    top r (inl e) = omega (arith, level_is r c e)
    top r (inr a) = omega (arith, falls_at c l (level r) f.1 a)
last_level n (allowed c e s b ∷ l) f h =
    let r = last_level c l f.1 h in
    (r.0, inr r.1, λ k a. elim a [ inl d ↦ absurd (level_not k c e s b d) | inr u ↦ r.2 k u ])

-- the part of the ledger from calls before o
abbrev pub under : ℕ → Ledger → Ledger
under o [] = []
under o (x ∷ l) = cond (ltb (number x) o) (x ∷ l) (under o l)

pub under_push : (o : ℕ) (x : Standing) (l : Ledger) → o ≤ number x → under o (x ∷ l) ≡ under o l
under_push o x l h = cond-false (ltb (number x) o) _ _ (le-ltb (number x) o h)

pub under_all : (o : ℕ) (l : Ledger) → Falls o l → under o l ≡ l
under_all o [] f = refl
under_all o (x ∷ l) f = cond-true (ltb (number x) o) _ _ (lt-ltb (number x) o f.0)

-- closing a level opened at o or later leaves what came before o
pub under_closed : (n o q : ℕ) (l : Ledger) → Falls n l → Among (level q) l → o ≤ q → under o (closed l) ≡ under o l
under_closed n o q [] f a h = absurd a
under_closed n o q (level c ∷ l) f (inl e) h = sym (under_push o (level c) l (omega (arith, level_is q c e)))
under_closed n o q (level c ∷ l) f (inr a) h = sym (under_push o (level c) l (omega (arith, falls_at c l (level q) f.1 a)))
under_closed n o q (allowed c e s b ∷ l) f (inl d) h = absurd (level_not q c e s b d)
under_closed n o q (allowed c e s b ∷ l) f (inr a) h = under_closed c o q l f.1 a h ∙ sym (under_push o (allowed c e s b) l (omega (arith, falls_at c l (level q) f.1 a)))

-- closing the level opened at o, the last one, leaves only what came before
pub falls_last : (n o : ℕ) (l : Ledger) → Falls n l → Among (level o) l → ((q : ℕ) → Among (level q) l → q ≤ o) → Falls o (closed l)
falls_last n o [] f a h = absurd a
falls_last n o (level c ∷ l) f a h = falls_more c o l (h c (inl refl)) f.1
falls_last n o (allowed c e s b ∷ l) f (inl d) h = absurd (level_not o c e s b d)
falls_last n o (allowed c e s b ∷ l) f (inr a) h = falls_last c o l f.1 a (λ q u. h q (inr u))
