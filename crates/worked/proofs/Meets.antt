-- What the search that computes answers is what a find answers.
use Rattle.std.proofs.Common.{◌≡◌, ℕ, zero, suc, ◌+◌, ◌-◌, ◌<◌, ◌≤◌, Bool, true, false, eqb, ltb, ◌⊎◌, List, [], ◌∷◌, length, take, sym, refl, ◌∙◌, subst, inl, inr, arith}
use Rattle.std.proofs.lemmas.Bool.{cases_lt, both_ways, ltb-true, ltb-false, eqb-true, eqb-false, and_parts}
use Rattle.minutes.specs.Minutes.{at, In, NoneEmpty}
use Rattle.relations.specs.Meaning.{Meaning, relation, size}
use Rattle.relations.specs.ExactNarrowing.{has}
use Rattle.rest.specs.Rest.{Rest, Numbers, narrowed, has_empty}
use Rattle.rest.proofs.Settling.{any_order}
use Rattle.search.specs.declared.Answer.{Answer}
use Rattle.search.specs.declared.Answer.TheVariants.{Found, Nothing, Spent}
use Rattle.search.specs.Search.{held, Problem, events, WellPosed, FloorOf, Way, Finds}
use Rattle.search.proofs.Edges.{Raised, Lowered}
use Rattle.search.proofs.Emptiness.{no_empty, some_empty}
use Rattle.search.proofs.Living.{held_suits}
use Rattle.search.proofs.Finish.{cut, cut_length, cut_low, cut_at, cut_high}
use Rattle.search.proofs.State.{State, st_start, st_dead, st_up, st_down, st_found, st_dead_root, st_none, st_spent}
use Rattle.worked.proofs.Reference.{Outcome, answers, nothing, pick, equal, at_rest, low_from, raised_place, raised_edge, Next, at_dead, at_minute, at_alive, searched}

equal_is : (x y : List ℕ) → equal x y ≡ true → x ≡ y
equal_is [] [] h = refl
equal_is [] (b ∷ y) h = absurd (both_ways false refl h)
equal_is (a ∷ x) [] h = absurd (both_ways false refl h)
equal_is (a ∷ x) (b ∷ y) h =
    let p = and_parts (eqb a b) (equal x y) h in
    let e = eqb-true a b p.0 in
    let f = equal_is x y p.1 in
    λ i. e i ∷ f i

rests : (m : Meaning) (n : ℕ) (f : List ℕ) → at_rest m n f ≡ true → (k : ℕ) → k < n → (relation m k).narrowing f ≡ f
rests m zero f h k l = absurd (omega arith)
rests m (suc n) f h k l =
    let p = and_parts (equal ((relation m n).narrowing f) f) (at_rest m n f) h in
    elim (cases_lt k n) [
      | inl u ↦ rests m n f p.1 k u
      | inr u ↦ let e : n ≡ k = omega arith in subst (λ z. (relation m z).narrowing f ≡ f) e (equal_is _ _ p.0)
    ]

-- t is the lowest minute of s from lo on, or lo + n where none is below that
record Lowest (s lo n t : ℕ) : Type 0 where
  above : lo ≤ t
  least : (v : ℕ) → lo ≤ v → v < t → In v s → ⊥
  left : t < lo + n → In t s
  most : t ≤ lo + n

low_least : (s lo n : ℕ) → Lowest s lo n (low_from s lo n)
low_least s lo zero = record { above = omega arith; least = λ v a b i. omega arith; left = λ h. absurd (omega arith); most = omega arith }
low_least s lo (suc n) = go (has lo s) refl (low_least s (suc lo) n)
  where
    go : (b : Bool) → has lo s ≡ b → Lowest s (suc lo) n (low_from s (suc lo) n) → Lowest s lo (suc n) (elim b [ true ↦ lo | false ↦ low_from s (suc lo) n ])
    go true e r = record { above = omega arith; least = λ v a b i. omega arith; left = λ h. eqb-true _ 1 e; most = omega arith }
    go false e r = record {
      above = omega (arith, r.above);
      least = λ v a b i. elim (cases_lt lo v) [ inl u ↦ r.least v u b i | inr u ↦ let k : v ≡ lo = omega arith in eqb-false _ 1 e (subst (λ z. In z s) k i) ];
      left = λ h. r.left (omega arith);
      most = omega (arith, r.most);
    }

-- i is the place among the first d whose minute is raised
record Turns (T : ℕ) (y : List ℕ) (d i : ℕ) : Type 0 where
  inside : i < d
  last : (j : ℕ) → i < j → j < d → T ≤ suc (at y j)
  below : 0 < i → suc (at y i) < T

turns : (T : ℕ) (y : List ℕ) (d : ℕ) → 0 < d → Turns T y d (raised_place T y d)
turns T y zero h = absurd (omega arith)
turns T y (suc zero) h = record { inside = omega arith; last = λ j u v. absurd (omega arith); below = λ u. absurd (omega arith) }
turns T y (suc (suc d)) h = go (ltb (suc (at y (suc d))) T) refl (turns T y (suc d) (omega arith))
  where
    go : (b : Bool) → ltb (suc (at y (suc d))) T ≡ b → Turns T y (suc d) (raised_place T y (suc d)) → Turns T y (suc (suc d)) (elim b [ true ↦ suc d | false ↦ raised_place T y (suc d) ])
    go true e r = record { inside = omega arith; last = λ j u v. absurd (omega arith); below = λ u. ltb-true _ T e }
    go false e r = record {
      inside = omega (arith, r.inside);
      last = λ j u v. elim (cases_lt j (suc d)) [ inl k ↦ r.last j u k | inr k ↦ let q : suc d ≡ j = omega arith in subst (λ z. T ≤ suc (at y z)) q (ltb-false _ T e) ];
      below = r.below;
    }

raises : (T E : ℕ) (y : List ℕ) (d : ℕ) → length y ≡ E → 0 < d → d ≤ E → Raised T E y d (raised_place T y d) (raised_edge T y d)
raises T E y d e h l =
    let r = turns T y d h in
    let i = raised_place T y d in
    let u : raised_place T y d < length y = omega (arith, r.inside) in
    record { inside = r.inside; len = cut_length y i (suc (at y i)) u ∙ e; same = cut_low y i (suc (at y i)) u; up = cut_at y i (suc (at y i)) u; zeros = cut_high y i (suc (at y i)) u; last = r.last; below = r.below }

never : {A : Type 0} (a : Answer) (x : List ℕ) → nothing ≡ answers a x → A
never a x e = absurd (let z : ◌≡◌ {A = ℕ} 0 1 = cc in omega arith)

picked : (b : Bool) (f g : Unit {0} → Outcome) (o : Outcome) → pick b f g ≡ o → ((b ≡ true) × (f tt ≡ o)) ⊎ ((b ≡ false) × (g tt ≡ o))
picked true f g o e = inl (refl, e)
picked false f g o e = inr (refl, e)

same_answer : (a b : Answer) (x y : List ℕ) → answers a x ≡ answers b y → a ≡ b
same_answer a b x y e = cc

same_list : (a b : Answer) (x y : List ℕ) → answers a x ≡ answers b y → x ≡ y
same_list a b x y e = cc

module _ (q : Problem) (posed : WellPosed q) (way : Way q) (floor : List ℕ) (b : ℕ) (a : Answer) (x : List ℕ) where
  is : (c : Answer) (y : List ℕ) → answers c y ≡ answers a x → Finds q way floor b c y → Finds q way floor b a x
  is c y e f = subst (λ z. Finds q way floor b z x) (same_answer c a y x e) (subst (λ z. Finds q way floor b c z) (same_list c a y x e) f)

  -- a search that goes on so answers what a find answers
  abbrev Right : Next → Type 0
  Right next = (y onward : List ℕ) (d n : ℕ) → State q way floor y onward d n → n ≤ b → next y onward d n ≡ answers a x → Finds q way floor b a x

  module _ (next : Next) (goes_on : Right next) (y onward : List ℕ) (d n : ℕ) (s : State q way floor y onward d n) (l : n ≤ b)
      (r : List ℕ) (rest : Rest q.meaning (held (take d y) q.allowed) r) where
    raises_here : 0 < d → Raised q.meaning.period (events q) y d (raised_place q.meaning.period y d) (raised_edge q.meaning.period y d)
    raises_here pos = raises q.meaning.period (events q) y d s.walk.edge.len pos s.walk.depth

    dead : (NoneEmpty r → ⊥) → at_dead q.meaning.period b next y onward d n ≡ answers a x → Finds q way floor b a x
    dead no_life e = elim (picked (eqb d 0) _ _ _ e) [
      | inl v ↦ is (Nothing n) [] v.1 (st_dead_root q posed way floor y onward d n s r rest b l (eqb-true d 0 v.0) no_life)
      | inr v ↦
          let pos : 0 < d = omega (arith, eqb-false d 0 v.0) in
          elim (picked (eqb n b) _ _ _ v.1) [
            | inl w ↦ is (Spent n) onward w.1 (st_spent q posed way floor y onward d n s r rest b pos no_life (eqb-true n b w.0))
            | inr w ↦ goes_on _ _ _ (suc n) (st_dead q posed way floor y onward d n s r rest _ _ (raises_here pos) no_life) (omega (arith, eqb-false n b w.0)) w.1
          ]
    ]

    module _ (life : NoneEmpty r) (deep : d < events q) (t : ℕ) (low : Lowest (at r d) (at y d) (q.meaning.period - at y d) t) where
      bare : q.meaning.period ≤ t → (v : ℕ) → at y d ≤ v → v < q.meaning.period → In v (at r d) → ⊥
      bare most v above below i = low.least v above (omega arith) i

      minute : at_minute q.meaning.period t next y onward d n ≡ answers a x → Finds q way floor b a x
      minute e = elim (picked (ltb t q.meaning.period) _ _ _ e) [
        | inl w ↦
            let lt = ltb-true t q.meaning.period w.0 in
            let left = low.left (omega arith) in
            elim (picked (eqb t (at y d)) _ _ _ w.1) [
              | inl z ↦
                  let stays : Lowered (events q) y d t y = record { len = s.walk.edge.len; same = λ j h. refl; here = sym (eqb-true t (at y d) z.0); behind = inl refl } in
                  goes_on y onward (suc d) n (st_down q posed way floor y onward d n s r rest t y stays life deep left low.above low.least) l z.1
              | inr z ↦
                  let h : d < length y = omega (arith, s.walk.edge.len) in
                  let moves : Lowered (events q) y d t (cut y d t) = record { len = cut_length y d t h ∙ s.walk.edge.len; same = cut_low y d t h; here = cut_at y d t h; behind = inr (omega (arith, low.above, eqb-false t (at y d) z.0), cut_high y d t h) } in
                  goes_on (cut y d t) onward (suc d) n (st_down q posed way floor y onward d n s r rest t (cut y d t) moves life deep left low.above low.least) l z.1
            ]
        | inr w ↦
            let most = ltb-false t q.meaning.period w.0 in
            elim (picked (eqb d 0) _ _ _ w.1) [
              | inl z ↦ is (Nothing n) [] z.1 (st_none q posed way floor y onward d n s r rest b l (eqb-true d 0 z.0) (bare most))
              | inr z ↦ goes_on _ onward _ n (st_up q posed way floor y onward d n s r rest _ _ (raises_here (omega (arith, eqb-false d 0 z.0))) life deep (bare most)) l z.1
            ]
      ]

    alive : NoneEmpty r → at_alive q.meaning.period (events q) r next y onward d n ≡ answers a x → Finds q way floor b a x
    alive life e = elim (picked (eqb d (events q)) _ _ _ e) [
      | inl v ↦ is (Found n) y v.1 (st_found q posed way floor y onward d n s r rest b life (eqb-true d (events q) v.0) l)
      | inr v ↦ minute life (omega (arith, eqb-false d (events q) v.0, s.walk.depth)) _ (low_least (at r d) (at y d) (q.meaning.period - at y d)) v.1
    ]

  module _ (ks : List ℕ) (known : Numbers q.meaning ks) where
    meets : (fuel : ℕ) → Right (searched q ks b fuel)
    meets zero y onward d n s l e = never a x e
    meets (suc fuel) y onward d n s l e =
        let r = narrowed q.meaning ks (held (take d y) q.allowed) in
        elim (picked (at_rest q.meaning (size q.meaning) r) _ _ _ e) [
          | inr k ↦ never a x k.1
          | inl k ↦
              let rest = any_order q.meaning posed.laws (held (take d y) q.allowed) ks (held_suits q posed (take d y)) known (rests q.meaning (size q.meaning) r k.0) in
              elim (picked (has_empty r) _ _ _ k.1) [
                | inl u ↦ dead (searched q ks b fuel) (meets fuel) y onward d n s l r rest (some_empty r u.0) u.1
                | inr u ↦ alive (searched q ks b fuel) (meets fuel) y onward d n s l r rest (no_empty r u.0) u.1
              ]
        ]

-- from the floor on
pub searched_finds : (q : Problem) → WellPosed q → (floor ks : List ℕ) → Numbers q.meaning ks → FloorOf q floor → length floor ≡ events q →
    (b fuel : ℕ) (a : Answer) (x : List ℕ) → searched q ks b fuel floor floor 0 0 ≡ answers a x → (way : Way q) → Finds q way floor b a x
searched_finds q posed floor ks known f e b fuel a x h way = meets q posed way floor b a x ks known fuel floor floor 0 0 (st_start q posed way floor f e) (omega arith) h
