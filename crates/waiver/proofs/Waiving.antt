-- The calls of a waiver.
use Rattle.std.proofs.Common.{◌≡◌, ℕ, min, Bool, true, false, cond, ◌&&◌, List, length, get_or, take, sym, refl, ap, ◌∙◌, arith}
use Rattle.std.proofs.lemmas.Bool.{cond-true, cond-false, cond_both, false≢true}
use Rattle.relations.specs.Meaning.{Meaning, Relation, relation, size, idle}
use Rattle.relations.specs.Joins.{waived}
use Rattle.relations.proofs.Joining.{waived_size, relation_waived}
use Rattle.bank.specs.Calls.{in_limits, all_below, answer, Narrows}
use Rattle.bank.proofs.Answering.{limits_are, uncapped}

module _ (marks : List Bool) (m : Meaning) (k : ℕ) where
  same_size : size (waived marks m) ≡ size m
  same_size = waived_size marks 0 m.relations

  on : get_or marks k false ≡ true → relation (waived marks m) k ≡ idle
  on h = relation_waived marks m k ∙ cond-true _ _ _ h

  off : get_or marks k false ≡ false → relation (waived marks m) k ≡ relation m k
  off h = relation_waived marks m k ∙ cond-false _ _ _ h

  answer_of : (x : List ℕ) (R : Relation) → relation (waived marks m) k ≡ R → answer (waived marks m) k x ≡ (in_limits (size m) m.reach k (length x) && (all_below m.period (take m.reach x) && R.condition x))
  answer_of x R e =
      ap (λ z. in_limits z m.reach k (length x) && (all_below m.period (take m.reach x) && (relation (waived marks m) k).condition x)) same_size
      ∙ ap (λ z. in_limits (size m) m.reach k (length x) && (all_below m.period (take m.reach x) && z.condition x)) e

  pub unmarked_holds : (x : List ℕ) (v : Bool) → get_or marks k false ≡ false → v ≡ answer m k x → v ≡ answer (waived marks m) k x
  unmarked_holds x v h e = e ∙ sym (answer_of x (relation m k) (off h))

  and_true : (b : Bool) → (b && true) ≡ b
  and_true true = refl
  and_true false = refl

  module _ (s r p : ℕ) (hs : s ≡ min (size m) 513) (hr : r ≡ min m.reach 257) (hp : p ≡ m.period) where
    true_limits : (n : ℕ) (v : Bool) → in_limits s r k n ≡ v → in_limits (size m) m.reach k n ≡ v
    true_limits n v h = uncapped (size m) m.reach k n v (ap (λ z. in_limits z (min m.reach 257) k n) (sym hs) ∙ ap (λ z. in_limits s z k n) (sym hr) ∙ h)

    pub marked_inside : (x : List ℕ) (v : Bool) → get_or marks k false ≡ true → in_limits s r k (length x) ≡ true → v ≡ all_below p (take r x) → v ≡ answer (waived marks m) k x
    marked_inside x v h l e =
        let t = limits_are s r k (length x) l in
        let q : r ≡ m.reach = omega (arith, hr, t.low, t.high) in
        e ∙ ap (λ z. all_below z (take r x)) hp ∙ ap (λ z. all_below m.period (take z x)) q ∙ sym (and_true (all_below m.period (take m.reach x)))
        ∙ sym (answer_of x idle (on h) ∙ ap (λ z. z && (all_below m.period (take m.reach x) && true)) (true_limits (length x) true l))

  pub marked_outside : (s r : ℕ) → s ≡ min (size m) 513 → r ≡ min m.reach 257 → (x : List ℕ) → get_or marks k false ≡ true → in_limits s r k (length x) ≡ false → false ≡ answer (waived marks m) k x
  marked_outside s r hs hr x h l = sym (answer_of x idle (on h) ∙ ap (λ z. z && (all_below m.period (take m.reach x) && true)) (true_limits s r m.period hs hr refl (length x) false l))

  pub marked_narrow : (f : List ℕ) → get_or marks k false ≡ true → Narrows (waived marks m) k f f false
  marked_narrow f h = record {
    after = sym (ap (λ z. cond (in_limits (size (waived marks m)) m.reach k (length f)) (z.narrowing f) f) (on h)
        ∙ cond_both (in_limits (size (waived marks m)) m.reach k (length f)) f f (λ z. z ≡ f) (λ e. refl) (λ e. refl));
    other = λ e. absurd (false≢true e);
    same = λ e. refl;
  }

  pub unmarked_narrow : (f g : List ℕ) (v : Bool) → get_or marks k false ≡ false → Narrows m k f g v → Narrows (waived marks m) k f g v
  unmarked_narrow f g v h n = record {
    after = n.after ∙ sym (ap (λ z. cond (in_limits z m.reach k (length f)) ((relation (waived marks m) k).narrowing f) f) same_size
        ∙ ap (λ z. cond (in_limits (size m) m.reach k (length f)) (z.narrowing f) f) (off h));
    other = n.other;
    same = n.same;
  }
