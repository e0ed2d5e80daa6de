-- The calls of a pair.
use Rattle.std.proofs.Common.{◌≡◌, ℕ, zero, suc, ◌-◌, ◌<◌, ◌≤◌, min, Bool, true, ltb, List, [], ◌∷◌, length, take, sym, refl, ap, ◌∙◌, arith}
use Rattle.std.proofs.lemmas.Bool.{cond-true, ltb-true, lt-ltb, and_parts, and_from}
use Rattle.std.proofs.lemmas.List.{length-append}
use Rattle.relations.specs.Meaning.{Meaning, relation, size}
use Rattle.relations.specs.Joins.{joined}
use Rattle.relations.proofs.Joining.{relation_left, relation_right, common_left, common_right}
use Rattle.bank.specs.Calls.{in_limits, all_below, answer, Narrows}
use Rattle.bank.proofs.Answering.{limits_are, limits_from, uncapped, answer_inside, narrows_inside}

-- fewer minutes and a larger period pass the test too
pub below_wider : (T T' r r' : ℕ) (x : List ℕ) → T ≤ T' → r' ≤ r → all_below T (take r x) ≡ true → all_below T' (take r' x) ≡ true
below_wider T T' r zero x p q h = refl
below_wider T T' zero (suc r') x p q h = absurd (omega arith)
below_wider T T' (suc r) (suc r') [] p q h = refl
below_wider T T' (suc r) (suc r') (m ∷ x) p q h =
    let a = and_parts (ltb m T) _ h in
    and_from _ _ (lt-ltb m T' (omega (arith, ltb-true m T a.0))) (below_wider T T' r r' x p (omega arith) a.1)

-- a part's answer within the in-limits of the whole
pub part-answer : (m : Meaning) (T r k : ℕ) (x : List ℕ) → T ≤ m.period → m.reach ≤ r → k < size m → k < 512 → r ≤ length x → length x ≤ 256 → all_below T (take r x) ≡ true → answer m k x ≡ (relation m k).condition x
part-answer m T r k x p q i j l u a = sym (answer_inside m k (size m) m.reach refl refl x ((relation m k).condition x)
    (limits_from (size m) m.reach k (length x) (record { number = i; table = j; low = omega arith; high = u }))
    (below_wider T m.period r m.reach x p q a) refl)

pub part-limits : (m : Meaning) (r k n : ℕ) → m.reach ≤ r → k < size m → k < 512 → r ≤ n → n ≤ 256 → in_limits (size m) m.reach k n ≡ true
part-limits m r k n q i j l u = limits_from (size m) m.reach k n (record { number = i; table = j; low = omega arith; high = u })

module _ (a b : Meaning) (k s r : ℕ) (hs : s ≡ min (size (joined a b)) 513) (hr : r ≡ min (joined a b).reach 257) where
  true_limits : (n : ℕ) (v : Bool) → in_limits s r k n ≡ v → in_limits (size (joined a b)) (joined a b).reach k n ≡ v
  true_limits n v h = uncapped (size (joined a b)) (joined a b).reach k n v (ap (λ z. in_limits z (min (joined a b).reach 257) k n) (sym hs) ∙ ap (λ z. in_limits s z k n) (sym hr) ∙ h)

  reach_true : (n : ℕ) → in_limits s r k n ≡ true → r ≡ (joined a b).reach
  reach_true n h = let m = limits_are s r k n h in omega (arith, hr, m.low, m.high)

  pair_inside : (x : List ℕ) (p : ℕ) (v : Bool) → p ≡ (joined a b).period → in_limits s r k (length x) ≡ true → all_below p (take r x) ≡ true → v ≡ (relation (joined a b) k).condition x → v ≡ answer (joined a b) k x
  pair_inside x p v e h c = answer_inside (joined a b) k _ _ refl refl x v (true_limits (length x) true h)
      (ap (λ z. all_below (joined a b).period (take z x)) (sym (reach_true (length x) h)) ∙ ap (λ z. all_below z (take r x)) (sym e) ∙ c)

  pub pair_left : (x : List ℕ) (p n : ℕ) (v : Bool) → p ≡ (joined a b).period → in_limits s r k (length x) ≡ true → all_below p (take r x) ≡ true → n ≡ min (size a) 513 → k < n → v ≡ answer a k x → v ≡ answer (joined a b) k x
  pair_left x p n v e h c w i q =
      let m = limits_are s r k (length x) h in
      let l : k < size a = omega arith in
      pair_inside x p v e h c (q
      ∙ part-answer a p r k x (omega (arith, e, common_left a.period b.period)) (omega (arith, reach_true (length x) h)) l m.table m.low m.high c
      ∙ ap (λ z. z.condition x) (sym (relation_left a b k l)))

  size_right : (n j : ℕ) → n ≡ min (size a) 513 → n ≤ k → k < 512 → j ≡ k - n → k < s → (size a ≤ k) × (j ≡ k - size a) × (j < size b)
  size_right n j w i t e u = (omega arith, omega arith, omega (arith, hs, length-append a.relations b.relations))

  pub pair_right : (x : List ℕ) (p n : ℕ) (v : Bool) → p ≡ (joined a b).period → in_limits s r k (length x) ≡ true → all_below p (take r x) ≡ true → n ≡ min (size a) 513 → n ≤ k → v ≡ answer b (k - n) x → v ≡ answer (joined a b) k x
  pair_right x p n v e h c w i q =
      let m = limits_are s r k (length x) h in
      let z = size_right n (k - n) w i m.table refl m.number in
      pair_inside x p v e h c (q
      ∙ part-answer b p r (k - n) x (omega (arith, e, common_right a.period b.period)) (omega (arith, reach_true (length x) h)) z.2 (omega (arith, m.table)) m.low m.high c
      ∙ ap (λ y. (relation b y).condition x) z.1
      ∙ ap (λ y. y.condition x) (sym (relation_right a b k z.0)))

  pub narrow_right : (f g : List ℕ) (n : ℕ) (v : Bool) → in_limits s r k (length f) ≡ true → n ≡ min (size a) 513 → n ≤ k → Narrows b (k - n) f g v → Narrows (joined a b) k f g v
  narrow_right f g n v h w i q =
      let m = limits_are s r k (length f) h in
      let z = size_right n (k - n) w i m.table refl m.number in
      narrows_inside (joined a b) k _ _ refl refl f g v (true_limits (length f) true h)
      (q.after ∙ cond-true _ _ _ (part-limits b r (k - n) (length f) (omega (arith, reach_true (length f) h)) z.2 (omega (arith, m.table)) m.low m.high)
      ∙ ap (λ y. (relation b y).narrowing f) z.1 ∙ ap (λ y. y.narrowing f) (sym (relation_right a b k z.0)))
      q.other q.same
