-- Exact narrowing of a span: its two sets, each by the other.
use Rattle.std.proofs.Common.{◌≡◌, ℕ, suc, ◌-◌, ◌<◌, ◌≤◌, true, false, ◌||◌, eqb, ◌⊎◌, List, [], ◌∷◌, length, get_or, set, sym, refl, ap, ◌∙◌, subst, inl, inr, arith}
use Rattle.std.proofs.lemmas.Bool.{eqb-true, eq-eqb, and_parts, and_from, or_cases, or_left, or_right, both_ways}
use Rattle.std.proofs.lemmas.List.{length-set, get_or-set_same, get_or-set_other}
use Rattle.minutes.specs.Minutes.{In, Sub, at}
use Rattle.minutes.proofs.Sets.{same_sets}
use Rattle.relations.specs.ExactNarrowing.{has, named, of, fixing, kept, narrowed}
use Rattle.relations.specs.Conditions.{spans, span_met}
use Rattle.relations.proofs.Tests.{has_in, in_has, any_yes, any_from, in_those, those_in}
use Rattle.relations.proofs.Narrowing.{is_narrowed, in_kept, kept_in, fixing_here, fixing_there, fixing_from}
use Rattle.spans.specs.Spans.{from_left, to_left}

-- one of two events
pub named_two : (e i j : ℕ) → named e (i ∷ j ∷ []) ≡ true → (e ≡ i) ⊎ (e ≡ j)
named_two e i j h = elim (or_cases (eqb e i) (eqb e j || false) h) [
  | inl a ↦ inl (eqb-true e i a)
  | inr b ↦ elim (or_cases (eqb e j) false b) [ inl a ↦ inr (eqb-true e j a) | inr z ↦ absurd (both_ways false refl z) ]
]

-- what the two events of a span keep
module _ (T l u i j : ℕ) (f : List ℕ) (apart : i ≡ j → ⊥) where
  from_kept : kept T (i ∷ j ∷ []) (span_met T l u) f i (of f i) ≡ from_left T l u (of f i) (of f j)
  from_kept = same_sets _ _ to from
    where
      to : Sub (kept T (i ∷ j ∷ []) (span_met T l u) f i (of f i)) (from_left T l u (of f i) (of f j))
      to m h =
          let p = in_kept T (i ∷ j ∷ []) (span_met T l u) f i (of f i) m h in
          let a = any_yes T _ p.2 in
          let b = and_parts (fixing f i m i a.0) _ a.2 in
          let c = any_yes T _ b.1 in
          let d = and_parts (fixing f i m j c.0) _ c.2 in
          let e : a.0 ≡ m = fixing_here T (i ∷ j ∷ []) (span_met T l u) f i m a.0 b.0 in
          let g : In c.0 (of f j) = fixing_there T (i ∷ j ∷ []) (span_met T l u) f i m j c.0 (λ q. apart (sym q)) d.0 in
          let k : spans T l u m c.0 ≡ true = subst (λ z. spans T l u z c.0 ≡ true) e d.1 in
          those_in T _ m p.0 (and_from _ _ (in_has m (of f i) p.1) (any_from T _ c.0 c.1 (and_from _ _ (in_has c.0 (of f j) g) k)))

      from : Sub (from_left T l u (of f i) (of f j)) (kept T (i ∷ j ∷ []) (span_met T l u) f i (of f i))
      from m h =
          let p = in_those T _ m h in
          let y = and_parts (has m (of f i)) _ p.1 in
          let z = any_yes T _ y.1 in
          let k = and_parts (has z.0 (of f j)) _ z.2 in
          kept_in T (i ∷ j ∷ []) (span_met T l u) f i (of f i) m p.0 (has_in m (of f i) y.0)
          (any_from T _ m p.0 (and_from _ _ (fixing_from T (i ∷ j ∷ []) (span_met T l u) f i m i m (λ q. refl) (λ q. absurd (q refl)))
          (any_from T _ z.0 z.1 (and_from _ _ (fixing_from T (i ∷ j ∷ []) (span_met T l u) f i m j z.0 (λ q. absurd (apart (sym q))) (λ q. has_in z.0 (of f j) k.0)) k.1))))

  to_kept : kept T (i ∷ j ∷ []) (span_met T l u) f j (of f j) ≡ to_left T l u (of f i) (of f j)
  to_kept = same_sets _ _ to from
    where
      to : Sub (kept T (i ∷ j ∷ []) (span_met T l u) f j (of f j)) (to_left T l u (of f i) (of f j))
      to m h =
          let p = in_kept T (i ∷ j ∷ []) (span_met T l u) f j (of f j) m h in
          let a = any_yes T _ p.2 in
          let b = and_parts (fixing f j m i a.0) _ a.2 in
          let c = any_yes T _ b.1 in
          let d = and_parts (fixing f j m j c.0) _ c.2 in
          let e : c.0 ≡ m = fixing_here T (i ∷ j ∷ []) (span_met T l u) f j m c.0 d.0 in
          let g : In a.0 (of f i) = fixing_there T (i ∷ j ∷ []) (span_met T l u) f j m i a.0 apart b.0 in
          let k : spans T l u a.0 m ≡ true = subst (λ z. spans T l u a.0 z ≡ true) e d.1 in
          those_in T _ m p.0 (and_from _ _ (in_has m (of f j) p.1) (any_from T _ a.0 a.1 (and_from _ _ (in_has a.0 (of f i) g) k)))

      from : Sub (to_left T l u (of f i) (of f j)) (kept T (i ∷ j ∷ []) (span_met T l u) f j (of f j))
      from m h =
          let p = in_those T _ m h in
          let y = and_parts (has m (of f j)) _ p.1 in
          let z = any_yes T _ y.1 in
          let k = and_parts (has z.0 (of f i)) _ z.2 in
          kept_in T (i ∷ j ∷ []) (span_met T l u) f j (of f j) m p.0 (has_in m (of f j) y.0)
          (any_from T _ z.0 z.1 (and_from _ _ (fixing_from T (i ∷ j ∷ []) (span_met T l u) f j m i z.0 (λ q. absurd (apart q)) (λ q. has_in z.0 (of f i) k.0))
          (any_from T _ m p.0 (and_from _ _ (fixing_from T (i ∷ j ∷ []) (span_met T l u) f j m j m (λ q. refl) (λ q. absurd (q refl))) k.1))))

  -- both sets written
  pub span_narrows : 1 ≤ i → 1 ≤ j → i - 1 < length f → j - 1 < length f
      → set (set f (i - 1) (from_left T l u (of f i) (of f j))) (j - 1) (to_left T l u (of f i) (of f j)) ≡ narrowed T (i ∷ j ∷ []) (span_met T l u) f
  span_narrows hi hj li lj = is_narrowed T (i ∷ j ∷ []) (span_met T l u) f g long here there
    where
      a : ℕ
      a = from_left T l u (of f i) (of f j)

      b : ℕ
      b = to_left T l u (of f i) (of f j)

      g : List ℕ
      g = set (set f (i - 1) a) (j - 1) b

      long : length g ≡ length f
      long = length-set (set f (i - 1) a) (j - 1) b ∙ length-set f (i - 1) a

      here : (n : ℕ) → n < length f → named (suc n) (i ∷ j ∷ []) ≡ true → at g n ≡ kept T (i ∷ j ∷ []) (span_met T l u) f (suc n) (at f n)
      here n h k = elim (named_two (suc n) i j k) [
        | inl q ↦
            let e : i - 1 ≡ n = omega arith in
            let w : n ≡ j - 1 → ⊥ = λ z. apart (omega arith) in
            get_or-set_other (set f (i - 1) a) (j - 1) n b 0 w
            ∙ subst (λ z. get_or (set f z a) n 0 ≡ a) (sym e) (get_or-set_same f n a 0 h)
            ∙ sym from_kept
            ∙ ap (λ z. kept T (i ∷ j ∷ []) (span_met T l u) f z (of f i)) (sym q)
            ∙ ap (λ z. kept T (i ∷ j ∷ []) (span_met T l u) f (suc n) (at f z)) e
        | inr q ↦
            let e : j - 1 ≡ n = omega arith in
            subst (λ z. get_or (set (set f (i - 1) a) z b) n 0 ≡ b) (sym e) (get_or-set_same (set f (i - 1) a) n b 0 (omega (arith, length-set f (i - 1) a)))
            ∙ sym to_kept
            ∙ ap (λ z. kept T (i ∷ j ∷ []) (span_met T l u) f z (of f j)) (sym q)
            ∙ ap (λ z. kept T (i ∷ j ∷ []) (span_met T l u) f (suc n) (at f z)) e
      ]

      there : (n : ℕ) → n < length f → named (suc n) (i ∷ j ∷ []) ≡ false → at g n ≡ at f n
      there n h k =
          let wi : n ≡ i - 1 → ⊥ = λ z. both_ways (named (suc n) (i ∷ j ∷ [])) k (or_left (eqb (suc n) i) _ (eq-eqb (suc n) i (omega arith))) in
          let wj : n ≡ j - 1 → ⊥ = λ z. both_ways (named (suc n) (i ∷ j ∷ [])) k (or_right (eqb (suc n) i) _ (or_left (eqb (suc n) j) _ (eq-eqb (suc n) j (omega arith)))) in
          get_or-set_other (set f (i - 1) a) (j - 1) n b 0 wj ∙ get_or-set_other f (i - 1) n a 0 wi
