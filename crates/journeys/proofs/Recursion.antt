-- The passes, one set after another.
use Rattle.std.proofs.Common.{◌≡◌, ℕ, zero, suc, ◌+◌, ◌-◌, ◌<◌, ◌≤◌, Bool, false, not, ◌||◌, cond, ◌&&◌, leb, eqb, List, [], ◌∷◌, map, length, set, replicate, sym, refl, ap, ◌∙◌, subst, inl, inr, arith}
use Rattle.std.proofs.lemmas.Bool.{eqb-true, eqb-false, or_cases, or_parts, not-true, not-false, both_ways}
use Rattle.std.proofs.lemmas.List.{length-set, get_or-set_same, get_or-set_other, get_or-replicate}
use Rattle.minutes.specs.Minutes.{at}
use Rattle.relations.specs.ExactNarrowing.{has, those, of}
use Rattle.relations.specs.Tables.{Chain}
use Rattle.minutes.specs.Differences.{gap}
use Rattle.journeys.specs.Lengths.{no_way, onward, behind, to_go, swept, Holds, Put, Swept}
use Rattle.journeys.proofs.Leasts.{least_cong}
use Rattle.journeys.proofs.Gathering.{those_cong}

onward_cong : (T : ℕ) (F G : ℕ → ℕ) (s b : ℕ) → ((m : ℕ) → m < T → F m ≡ G m) → onward T F s b ≡ onward T G s b
onward_cong T F G s b e = ap (λ z. cond (has b s) z no_way) (least_cong T (λ a. F a + gap T a b) (λ a. G a + gap T a b) (λ m l. ap (λ z. z + gap T m b) (e m l)))

pub swept_cong : (T cap : ℕ) (F G : ℕ → ℕ) (ss : List ℕ) → ((m : ℕ) → m < T → F m ≡ G m) → swept T cap F ss ≡ swept T cap G ss
swept_cong T cap F G [] e = refl
swept_cong T cap F G (s ∷ ss) e =
    let a : those T (λ m. has m s && leb (onward T F s m + to_go T ss m) cap) ≡ those T (λ m. has m s && leb (onward T G s m + to_go T ss m) cap) =
    those_cong T _ _ (λ m l. ap (λ z. has m s && leb (z + to_go T ss m) cap) (onward_cong T F G s m e)) in
    let b = swept_cong T cap (onward T F s) (onward T G s) ss (λ m l. onward_cong T F G s m e) in
    λ i. a i ∷ b i

pub swept_none : (T cap : ℕ) (fore chain before row : List ℕ) → T ≤ 64 → length chain ≡ 0 → row ≡ replicate 64 0 → Swept T cap fore chain before before row false
swept_none T cap fore [] before row t h e = record {
  put = record {
    len = refl;
    here = λ i l. absurd (omega arith);
    other = λ p n. refl;
    moved = λ z. absurd (both_ways false refl z);
    still = λ z i l. absurd (omega arith);
  };
  through = record { value = λ m l. ap (λ r. at r m) e ∙ get_or-replicate 64 m 0 0 (omega arith) };
}
swept_none T cap fore (s ∷ ss) before row t h e = absurd (omega arith)

-- one more set put, at the event before the others
module _ (e v : ℕ) (es sets before middle : List ℕ) (q : Bool) (c : Chain (length before) (e ∷ es)) (p : Put es sets before middle q) where
  low : 1 ≤ e
  low = c.low 0 (omega arith)

  apart : (i : ℕ) → i < length es → at es i - 1 ≡ e - 1 → ⊥
  apart i l z = let w : ◌≡◌ {A = ℕ} (suc i) 0 = c.apart (suc i) 0 (omega arith) (omega arith) (omega (arith, c.low (suc i) (omega arith), low)) in omega arith

  old : at middle (e - 1) ≡ at before (e - 1)
  old = p.other (e - 1) (λ i l z. apart i l (omega (arith, low)))

  pub put_more : (changed : Bool) → changed ≡ (q || not (eqb v (of before e))) → Put (e ∷ es) (v ∷ sets) before (set middle (e - 1) v) changed
  put_more changed is = record {
    len = length-set middle (e - 1) v ∙ p.len;
    here = here;
    other = λ r h. get_or-set_other middle (e - 1) r v 0 (λ z. h 0 (omega arith) (omega (arith, low))) ∙ p.other r (λ i l. h (suc i) (omega arith));
    moved = λ t. elim (or_cases q (not (eqb v (of before e))) (sym is ∙ t)) [
      | inl a ↦ let m = p.moved a in (suc m.0, omega (arith, m.1), m.2)
      | inr b ↦ (0, omega arith, eqb-false v (of before e) (not-true _ b))
    ];
    still = still;
  }
    where
      here : (i : ℕ) → i < length (e ∷ es) → at (set middle (e - 1) v) (at (e ∷ es) i - 1) ≡ at (v ∷ sets) i
      here zero l = get_or-set_same middle (e - 1) v 0 (omega (arith, low, p.len, c.high 0 (omega arith)))
      here (suc i) l = get_or-set_other middle (e - 1) (at es i - 1) v 0 (apart i (omega arith)) ∙ p.here i (omega arith)

      still : changed ≡ false → (i : ℕ) → i < length (e ∷ es) → at (v ∷ sets) i ≡ at before (at (e ∷ es) i - 1)
      still t zero l = eqb-true v (of before e) (not-false _ (or_parts q (not (eqb v (of before e))) (sym is ∙ t)).1)
      still t (suc i) l = p.still (or_parts q (not (eqb v (of before e))) (sym is ∙ t)).0 i (omega arith)

-- a chain but for its first event
pub rest_chain : (n e : ℕ) (es : List ℕ) → Chain n (e ∷ es) → 0 < length es → Chain n es
rest_chain n e es c h = record {
  some = h;
  low = λ i l. c.low (suc i) (omega arith);
  high = λ i l. c.high (suc i) (omega arith);
  apart = λ i j l u z. let w : ◌≡◌ {A = ℕ} (suc i) (suc j) = c.apart (suc i) (suc j) (omega arith) (omega arith) z in omega arith;
}

module _ (T cap e v : ℕ) (chain es before middle fore here next row : List ℕ) (q changed : Bool)
    (split : chain ≡ e ∷ es)
    (c : 0 < length chain → Chain (length before) chain)
    (a : Holds T (onward T (at fore) (of before e)) here)
    (p : Swept T cap here es before middle next q)
    (k : v ≡ those T (λ m. has m (of before e) && leb (at here m + at next m) cap))
    (b : Holds T (behind T (at next) (of before e)) row)
    (is : changed ≡ (q || not (eqb v (of before e)))) where
  kept_is : v ≡ those T (λ m. has m (of before e) && leb (onward T (at fore) (of before e) m + to_go T (map (of before) es) m) cap)
  kept_is = k ∙ those_cong T _ _ (λ m l. ap (λ z. has m (of before e) && leb (z + at next m) cap) (a.value m l) ∙ ap (λ z. has m (of before e) && leb (onward T (at fore) (of before e) m + z) cap) (p.through.value m l))

  sets_are : v ∷ swept T cap (at here) (map (of before) es) ≡ swept T cap (at fore) (map (of before) (e ∷ es))
  sets_are = let w = swept_cong T cap (at here) (onward T (at fore) (of before e)) (map (of before) es) a.value in λ i. kept_is i ∷ w i

  whole : Chain (length before) (e ∷ es)
  whole = subst (Chain (length before)) split (c (omega (arith, ap length split)))

  pub swept_more : Swept T cap fore chain before (set middle (e - 1) v) row changed
  swept_more = subst (λ z. Swept T cap fore z before (set middle (e - 1) v) row changed) (sym split) (record {
    put = subst (λ z. Put (e ∷ es) z before (set middle (e - 1) v) changed) sets_are (put_more e v es _ before middle q whole p.put changed is);
    through = record {
      value = λ m l. b.value m l ∙ least_cong T _ _ (λ c u. ap (λ z. cond (has c (of before e)) (gap T m c + z) no_way) (p.through.value c u));
    };
  })
