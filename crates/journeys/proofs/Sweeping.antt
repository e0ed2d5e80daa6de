-- The passes of a journey against its narrowed narrowing.
use Rattle.std.proofs.Common.{◌≡◌, ℕ, zero, suc, ◌+◌, ◌-◌, ◌<◌, ◌≤◌, true, cond, ◌&&◌, leb, ◌⊎◌, List, [], ◌∷◌, map, length, sym, refl, ap, ◌∙◌, subst, inl, inr, arith}
use Rattle.std.proofs.lemmas.Bool.{and_parts, and_from, le-leb, leb-true, cases_Bool, cases_eq, cond-true, cond-false}
use Rattle.std.proofs.lemmas.List.{length-map}
use Rattle.minutes.specs.Minutes.{In, Sub, at}
use Rattle.relations.specs.ExactNarrowing.{has, those, fixing, kept, of}
use Rattle.minutes.specs.Differences.{gap}
use Rattle.relations.specs.Conditions.{legs, journey_met}
use Rattle.minutes.proofs.Sets.{same_sets, no_minute}
use Rattle.relations.proofs.Tests.{has_in, in_has, in_those, those_in, Chosen, choice_some, choice_made}
use Rattle.relations.proofs.Narrowing.{in_kept, kept_in, fixing_here, fixing_there, fixing_from}
use Rattle.minutes.proofs.Gaps.{gap_up}
use Rattle.journeys.specs.Lengths.{no_way, least, onward, to_go, swept}
use Rattle.journeys.proofs.Leasts.{least_some, least_le}

-- one minute below T of each set
abbrev pub Pick : ℕ → List ℕ → List ℕ → Type 0
Pick T [] [] = Unit {0}
Pick T [] (m ∷ ms) = ⊥
Pick T (s ∷ ss) [] = ⊥
Pick T (s ∷ ss) (m ∷ ms) = (m < T) × In m s × Pick T ss ms

-- a chain through the sets, no longer than v, from minute a
to_go_some : (T : ℕ) (ss : List ℕ) (a v : ℕ) → to_go T ss a ≤ v → v < no_way → (ms : List ℕ) × Pick T ss ms × (legs T (a ∷ ms) ≤ v)
to_go_some T [] a v h l = ([], tt, omega arith)
to_go_some T (s ∷ ss) a v h l =
    let r = least_some T (λ b. cond (has b s) (gap T a b + to_go T ss b) no_way) v h l in
    let b : ℕ = r.0 in
    elim (cases_Bool (has b s)) [
      | inl e ↦
          let k : gap T a b + to_go T ss b ≤ v = subst (λ z. z ≤ v) (cond-true (has b s) (gap T a b + to_go T ss b) no_way e) r.2 in
          let q = to_go_some T ss b (v - gap T a b) (omega arith) (omega arith) in
          (b ∷ q.0, (r.1, has_in b s e, q.1), omega (arith, q.2))
      | inr e ↦ absurd (omega (arith, cond-false (has b s) (gap T a b + to_go T ss b) no_way e, r.2))
    ]

to_go_le : (T : ℕ) (ss ms : List ℕ) (a : ℕ) → Pick T ss ms → to_go T ss a ≤ legs T (a ∷ ms)
to_go_le T [] [] a p = omega arith
to_go_le T [] (m ∷ ms) a p = absurd p
to_go_le T (s ∷ ss) [] a p = absurd p
to_go_le T (s ∷ ss) (b ∷ ms) a p =
    let h = least_le T (λ c. cond (has c s) (gap T a c + to_go T ss c) no_way) b p.0 in
    let e = cond-true (has b s) (gap T a b + to_go T ss b) no_way (in_has b s p.1) in
    omega (arith, h, e, to_go_le T ss ms b p.2)

onward_some : (T : ℕ) (F : ℕ → ℕ) (s b v : ℕ) → onward T F s b ≤ v → v < no_way → In b s × ((a : ℕ) × (a < T) × (F a + gap T a b ≤ v))
onward_some T F s b v h l = elim (cases_Bool (has b s)) [
  | inl e ↦ (has_in b s e, least_some T (λ a. F a + gap T a b) v (subst (λ z. z ≤ v) (cond-true (has b s) (least T (λ a. F a + gap T a b)) no_way e) h) l)
  | inr e ↦ absurd (omega (arith, cond-false (has b s) (least T (λ a. F a + gap T a b)) no_way e))
]

onward_le : (T : ℕ) (F : ℕ → ℕ) (s b a : ℕ) → In b s → a < T → onward T F s b ≤ F a + gap T a b
onward_le T F s b a i h = omega (arith, cond-true (has b s) (least T (λ a. F a + gap T a b)) no_way (in_has b s i), least_le T (λ a. F a + gap T a b) a h)

-- a chain through the sets with minute t at place i, after a way of length F a to minute a
pub record Way (T cap : ℕ) (F : ℕ → ℕ) (ss : List ℕ) (i t : ℕ) : Type 0 where
  pub from : ℕ
  pub below : from < T
  pub minutes : List ℕ
  pub pick : Pick T ss minutes
  pub here : at minutes i ≡ t
  pub short : F from + legs T (from ∷ minutes) ≤ cap

pub swept_chain : (T cap : ℕ) (F : ℕ → ℕ) (ss : List ℕ) (i t : ℕ) → cap < no_way → In t (at (swept T cap F ss) i) → Way T cap F ss i t
swept_chain T cap F [] i t l h = absurd (no_minute t h)
swept_chain T cap F (s ∷ ss) zero t l h =
    let p = in_those T (λ m. has m s && leb (onward T F s m + to_go T ss m) cap) t h in
    let y = and_parts (has t s) (leb (onward T F s t + to_go T ss t) cap) p.1 in
    let n = leb-true (onward T F s t + to_go T ss t) cap y.1 in
    let b = onward_some T F s t (cap - to_go T ss t) (omega arith) (omega arith) in
    let q = to_go_some T ss t (cap - (F b.1.0 + gap T b.1.0 t)) (omega (arith, b.1.2)) (omega arith) in
    record { from = b.1.0; below = b.1.1; minutes = t ∷ q.0; pick = (p.0, b.0, q.1); here = refl {a = t}; short = omega (arith, q.2, b.1.2) }
swept_chain T cap F (s ∷ ss) (suc i) t l h =
    let c = swept_chain T cap (onward T F s) ss i t l h in
    let b = onward_some T F s c.from (cap - legs T (c.from ∷ c.minutes)) (omega (arith, c.short)) (omega arith) in
    record { from = b.1.0; below = b.1.1; minutes = c.from ∷ c.minutes; pick = (c.below, b.0, c.pick); here = c.here; short = omega (arith, c.short, b.1.2) }

pub chain_swept : (T cap : ℕ) (F : ℕ → ℕ) (ss : List ℕ) (i t : ℕ) → i < length ss → Way T cap F ss i t → In t (at (swept T cap F ss) i)
chain_swept T cap F ss i t h c = go T cap F ss i t h c.from c.minutes c.below c.pick c.here c.short
  where
    go : (T cap : ℕ) (F : ℕ → ℕ) (ss : List ℕ) (i t : ℕ) → i < length ss → (a : ℕ) (ms : List ℕ) → a < T → Pick T ss ms → at ms i ≡ t → F a + legs T (a ∷ ms) ≤ cap → In t (at (swept T cap F ss) i)
    go T cap F [] i t h a ms b p e s = absurd (omega arith)
    go T cap F (s ∷ ss) i t h a [] b p e n = absurd p
    go T cap F (s ∷ ss) zero t h a (m ∷ ms) b p e n =
        subst (λ z. In z (those T (λ m. has m s && leb (onward T F s m + to_go T ss m) cap))) e
        (those_in T (λ m. has m s && leb (onward T F s m + to_go T ss m) cap) m p.0
        (and_from (has m s) _ (in_has m s p.1) (le-leb _ _ (omega (arith, onward_le T F s m a p.1 b, to_go_le T ss ms m p.2)))))
    go T cap F (s ∷ ss) (suc i) t h a (m ∷ ms) b p e n =
        go T cap (onward T F s) ss i t (omega arith) m ms p.0 p.2 e (omega (arith, onward_le T F s m a p.1 b))

module _ (T cap : ℕ) (f : List ℕ) (e t : ℕ) where
  chosen_pick : (es ms : List ℕ) → In t (of f e) → Chosen T (fixing f e t) es ms → Pick T (map (of f) es) ms
  chosen_pick [] [] i p = tt
  chosen_pick [] (m ∷ ms) i p = absurd p
  chosen_pick (d ∷ es) [] i p = absurd p
  chosen_pick (d ∷ es) (m ∷ ms) i p = (p.0, inside (cases_eq d e), chosen_pick es ms i p.2)
    where
      inside : (d ≡ e) ⊎ (d ≡ e → ⊥) → In m (of f d)
      inside (inl q) =
          let k : m ≡ t = fixing_here T es (journey_met T cap) f e t m (subst (λ z. fixing f e t z m ≡ true) q p.1) in
          subst (λ z. In z (of f d)) (sym k) (subst (λ z. In t (of f z)) (sym q) i)
      inside (inr n) = fixing_there T es (journey_met T cap) f e t d m n p.1

  chosen_at : (es ms : List ℕ) (j : ℕ) → j < length es → at es j ≡ e → Chosen T (fixing f e t) es ms → at ms j ≡ t
  chosen_at [] ms j h q p = absurd (omega arith)
  chosen_at (d ∷ es) [] j h q p = absurd p
  chosen_at (d ∷ es) (m ∷ ms) zero h q p = fixing_here T es (journey_met T cap) f e t m (subst (λ z. fixing f e t z m ≡ true) q p.1)
  chosen_at (d ∷ es) (m ∷ ms) (suc j) h q p = chosen_at es ms j (omega arith) q p.2

  pick_chosen : (es ms : List ℕ) → ((j : ℕ) → j < length es → at es j ≡ e → at ms j ≡ t) → Pick T (map (of f) es) ms → Chosen T (fixing f e t) es ms
  pick_chosen [] [] q p = tt
  pick_chosen [] (m ∷ ms) q p = absurd p
  pick_chosen (d ∷ es) [] q p = absurd p
  pick_chosen (d ∷ es) (m ∷ ms) q p =
      (p.0, fixing_from T es (journey_met T cap) f e t d m (λ z. q 0 (omega arith) z) (λ n. p.1), pick_chosen es ms (λ j h z. q (suc j) (omega arith) z) p.2)

pick_length : (T : ℕ) (ss ms : List ℕ) → Pick T ss ms → length ms ≡ length ss
pick_length T [] [] p = refl
pick_length T [] (m ∷ ms) p = absurd p
pick_length T (s ∷ ss) [] p = absurd p
pick_length T (s ∷ ss) (m ∷ ms) p = ap suc (pick_length T ss ms p.2)

pick_at : (T : ℕ) (ss ms : List ℕ) (i : ℕ) → i < length ss → Pick T ss ms → (at ms i < T) × In (at ms i) (at ss i)
pick_at T [] ms i h p = absurd (omega arith)
pick_at T (s ∷ ss) [] i h p = absurd p
pick_at T (s ∷ ss) (m ∷ ms) zero h p = (p.0, p.1)
pick_at T (s ∷ ss) (m ∷ ms) (suc i) h p = pick_at T ss ms i (omega arith) p.2

at_map : (f es : List ℕ) (i : ℕ) → i < length es → at (map (of f) es) i ≡ of f (at es i)
at_map f [] i h = absurd (omega arith)
at_map f (e ∷ es) zero h = refl
at_map f (e ∷ es) (suc i) h = at_map f es i (omega arith)

-- a leg from a minute to itself has no length
first_leg : (T : ℕ) (ss ms : List ℕ) → 0 < length ss → Pick T ss ms → (a : ℕ) × (a < T) × (legs T (a ∷ ms) ≤ legs T ms)
first_leg T [] ms h p = absurd (omega arith)
first_leg T (s ∷ ss) [] h p = absurd p
first_leg T (s ∷ ss) (m ∷ ms) h p = (m, p.0, omega (arith, gap_up T m m (omega arith) p.0))

no_first : (T a : ℕ) (ms : List ℕ) → legs T ms ≤ legs T (a ∷ ms)
no_first T a [] = omega arith
no_first T a (m ∷ ms) = omega arith

-- the sweep leaves what exact narrowing keeps
pub sweep_keeps : (T cap : ℕ) (names f : List ℕ) → cap < no_way →
    ((i j : ℕ) → i < length names → j < length names → at names i ≡ at names j → i ≡ j) → (i : ℕ) → i < length names →
    at (swept T cap (λ _. 0) (map (of f) names)) i ≡ kept T names (journey_met T cap) f (at names i) (of f (at names i))
sweep_keeps T cap names f l apart i h = same_sets _ _ to from
  where
    e : ℕ
    e = at names i

    ss : List ℕ
    ss = map (of f) names

    long : i < length ss
    long = omega (arith, length-map names (of f))

    to : Sub (at (swept T cap (λ _. 0) ss) i) (kept T names (journey_met T cap) f e (of f e))
    to t k =
        let c = swept_chain T cap (λ _. 0) ss i t l k in
        let p = pick_at T ss c.minutes i long c.pick in
        let ht : t < T = subst (λ z. z < T) c.here p.0 in
        let it : In t (of f e) = subst (In t) (at_map f names i h) (subst (λ z. In z (at ss i)) c.here p.1) in
        kept_in T names (journey_met T cap) f e (of f e) t ht it
        (choice_made T (fixing f e t) names c.minutes (journey_met T cap)
        (pick_chosen T cap f e t names c.minutes (λ j u q. ap (at c.minutes) (apart j i u h q) ∙ c.here) c.pick)
        (le-leb (legs T c.minutes) cap (omega (arith, c.short, no_first T c.from c.minutes))))

    from : Sub (kept T names (journey_met T cap) f e (of f e)) (at (swept T cap (λ _. 0) ss) i)
    from t k =
        let p = in_kept T names (journey_met T cap) f e (of f e) t k in
        let q = choice_some T (fixing f e t) names (journey_met T cap) p.2 in
        let w = chosen_pick T cap f e t names q.0 p.1 q.1 in
        let a = first_leg T ss q.0 (omega (arith, long)) w in
        chain_swept T cap (λ _. 0) ss i t long (record {
          from = a.0;
          below = a.1;
          minutes = q.0;
          pick = w;
          here = chosen_at T cap f e t names q.0 i h refl q.1;
          short = omega (arith, a.2, leb-true (legs T q.0) cap q.2);
        })
