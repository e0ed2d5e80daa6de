-- Exact narrowing, said of an assignment of minutes to events.
use Rattle.std.proofs.Common.{◌≡◌, ℕ, suc, ◌-◌, ◌<◌, ◌≤◌, Bool, true, false, cond, not, eqb, List, [], ◌∷◌, map, length, sym, refl, ap, ◌∙◌, subst, inl, inr, arith}
use Rattle.std.proofs.lemmas.Bool.{eqb-true, eq-eqb, ne_eqb, cases_eq, cases_lt, cond-true, cond-false, and_parts, or_cases, not-true, both_ways}
use Rattle.std.proofs.lemmas.List.{get_or_past}
use Rattle.minutes.specs.Minutes.{In}
use Rattle.relations.specs.ExactNarrowing.{named, distinct, of, fixing, kept, narrowed, Allowed, ExactInWords}
use Rattle.relations.proofs.Tests.{same_map, Chosen, choice_some, choice_from}
use Rattle.relations.proofs.Narrowing.{length_narrowed, at_named, at_other, at_past, in_kept, kept_in, fixing_here, fixing_there, fixing_from}

-- the minute that stands beside the event
abbrev assigned : List ℕ → List ℕ → ℕ → ℕ
assigned [] ms e = 0
assigned (d ∷ ds) [] e = 0
assigned (d ∷ ds) (m ∷ ms) e = cond (eqb e d) m (assigned ds ms e)

-- what is chosen for each event is what is assigned to it
chosen_assigned : (T : ℕ) (may : ℕ → ℕ → Bool) (es ms : List ℕ) (e : ℕ) → Chosen T may es ms → named e es ≡ true →
    (assigned es ms e < T) × (may e (assigned es ms e) ≡ true)
chosen_assigned T may [] ms e p h = absurd (both_ways false refl h)
chosen_assigned T may (d ∷ es) [] e p h = absurd p
chosen_assigned T may (d ∷ es) (m ∷ ms) e p h = elim (cases_eq e d) [
  | inl q ↦
      let k : cond (eqb e d) m (assigned es ms e) ≡ m = cond-true (eqb e d) m (assigned es ms e) (eq-eqb e d q) in
      (subst (λ z. z < T) (sym k) p.0, subst (λ z. may e z ≡ true) (sym k) (subst (λ z. may z m ≡ true) (sym q) p.1))
  | inr q ↦
      let k : cond (eqb e d) m (assigned es ms e) ≡ assigned es ms e = cond-false (eqb e d) m (assigned es ms e) (ne_eqb e d q) in
      let r = chosen_assigned T may es ms e p.2 (rest q) in
      (subst (λ z. z < T) (sym k) r.0, subst (λ z. may e z ≡ true) (sym k) r.1)
]
  where
    rest : (e ≡ d → ⊥) → named e es ≡ true
    rest q = elim (or_cases (eqb e d) (named e es) h) [ inl a ↦ absurd (q (eqb-true e d a)) | inr b ↦ b ]

-- of distinct events, the assigned minutes are the chosen ones
assigned_all : (T : ℕ) (may : ℕ → ℕ → Bool) (es ms : List ℕ) → Chosen T may es ms → distinct es ≡ true → map (assigned es ms) es ≡ ms
assigned_all T may [] [] p h = refl
assigned_all T may [] (m ∷ ms) p h = absurd p
assigned_all T may (d ∷ es) [] p h = absurd p
assigned_all T may (d ∷ es) (m ∷ ms) p h =
    let a : assigned (d ∷ es) (m ∷ ms) d ≡ m = cond-true (eqb d d) m (assigned es ms d) (eq-eqb d d refl) in
    let r : map (assigned (d ∷ es) (m ∷ ms)) es ≡ ms = same_map (assigned (d ∷ es) (m ∷ ms)) (assigned es ms) es (λ e n. other e n) ∙ assigned_all T may es ms p.2 parts.1 in
    λ i. a i ∷ r i
  where
    parts : (not (named d es) ≡ true) × (distinct es ≡ true)
    parts = and_parts (not (named d es)) (distinct es) h

    other : (e : ℕ) → named e es ≡ true → assigned (d ∷ es) (m ∷ ms) e ≡ assigned es ms e
    other e n = cond-false (eqb e d) m (assigned es ms e)
        (ne_eqb e d (λ q. both_ways (named d es) (not-true _ parts.0) (subst (λ z. named z es ≡ true) q n)))

module _ (T : ℕ) (names : List ℕ) (c : List ℕ → Bool) (f : List ℕ) (e : ℕ) (low : 1 ≤ e) where
  place : suc (e - 1) ≡ e
  place = omega arith

  others_stay : named e names ≡ false → of (narrowed T names c f) e ≡ of f e
  others_stay n = elim (cases_lt (e - 1) (length f)) [
    | inl l ↦ at_other T names c f (e - 1) l (subst (λ z. named z names ≡ false) (sym place) n)
    | inr l ↦ at_past T names c f (e - 1) l ∙ sym (get_or_past f (e - 1) 0 l)
  ]

  kept_at : e ≤ length f → named e names ≡ true → of (narrowed T names c f) e ≡ kept T names c f e (of f e)
  kept_at high n = at_named T names c f (e - 1) (omega arith) (subst (λ z. named z names ≡ true) (sym place) n)
      ∙ ap (λ z. kept T names c f z (of f e)) place

  good_stay : (x : ℕ → ℕ) → e ≤ length f → named e names ≡ true → Allowed T names c f x → In (x e) (of (narrowed T names c f) e)
  good_stay x high n a = subst (In (x e)) (sym (kept_at high n)) (kept_in T names c f e (of f e) (x e) (a.below e n) (a.inside e n)
      (choice_from T (fixing f e (x e)) names c x
      (λ d k. (a.below d k, fixing_from T names c f e (x e) d (x d) (λ q. ap x q) (λ q. a.inside d k))) a.met))

  bad_go : (m : ℕ) → e ≤ length f → named e names ≡ true → distinct names ≡ true → In m (of (narrowed T names c f) e) →
      (x : ℕ → ℕ) × Allowed T names c f x × (x e ≡ m)
  bad_go m high n apart i =
      let p = in_kept T names c f e (of f e) m (subst (In m) (kept_at high n) i) in
      let q = choice_some T (fixing f e m) names c p.2 in
      let x : ℕ → ℕ = assigned names q.0 in
      let here : (d : ℕ) → named d names ≡ true → (x d < T) × (fixing f e m d (x d) ≡ true) = λ d k. chosen_assigned T (fixing f e m) names q.0 d q.1 k in
      let own : x e ≡ m = fixing_here T names c f e m (x e) (here e n).1 in (
        x,
        record {
          below = λ d k. (here d k).0;
          inside = λ d k. elim (cases_eq d e) [
            | inl z ↦ subst (λ w. In (x w) (of f w)) (sym z) (subst (λ w. In w (of f e)) (sym own) p.1)
            | inr z ↦ fixing_there T names c f e m d (x d) z (here d k).1
          ];
          met = subst (λ ms. c ms ≡ true) (sym (assigned_all T (fixing f e m) names q.0 q.1 apart)) q.2;
        },
        own,
      )

pub exact_in_words : ExactInWords
exact_in_words = record {
  same_length = length_narrowed;
  others_stay = λ T names c f e low. others_stay T names c f e low;
  good_stay = λ T names c f e x low. good_stay T names c f e low x;
  bad_go = λ T names c f e m low. bad_go T names c f e low m;
}
