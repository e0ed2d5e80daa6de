-- The events and the laws of a table of records.
use Rattle.std.proofs.Common.{◌≡◌, ℕ, zero, suc, ◌<◌, ◌≤◌, Bool, true, false, not, ◌&&◌, eqb, leb, List, [], ◌∷◌, map, length, get_or, sym, refl, ap, subst, inl, inr, arith}
use Rattle.std.proofs.lemmas.Bool.{eqb-true, eq-eqb, le-leb, leb-true, and_parts, and_from, or_cases, or_left, or_right, not-true, both_ways, false≢true}
use Rattle.std.proofs.lemmas.List.{length-map}
use Rattle.minutes.specs.Minutes.{at}
use Rattle.relations.specs.Meaning.{Relation, Laws, idle}
use Rattle.relations.specs.ExactNarrowing.{named, exactly, Names, Lawful}
use Rattle.relations.specs.Tables.{is_event, good_events, top, highest, sound, Chain}
use Rattle.relations.proofs.Narrowing.{exact_is_lawful}

-- a named event stands at a place, and the event of a place is named
pub named_place : (e : ℕ) (es : List ℕ) → named e es ≡ true → (i : ℕ) × (i < length es) × (at es i ≡ e)
named_place e [] h = absurd (false≢true h)
named_place e (d ∷ es) h = elim (or_cases (eqb e d) (named e es) h) [
  | inl a ↦ (0, omega arith, sym (eqb-true e d a))
  | inr b ↦ let r = named_place e es b in (suc r.0, omega (arith, r.1), r.2)
]

pub place_named : (es : List ℕ) (i : ℕ) → i < length es → named (at es i) es ≡ true
place_named [] i h = absurd (omega arith)
place_named (d ∷ es) zero h = or_left (eqb d d) (named d es) (eq-eqb d d refl)
place_named (d ∷ es) (suc i) h = or_right (eqb (at es i) d) (named (at es i) es) (place_named es i (omega arith))

module _ (E : ℕ) where
  good_first : (e : ℕ) (es : List ℕ) → good_events E (e ∷ es) ≡ true → (1 ≤ e) × (e ≤ E) × (named e es ≡ false) × (good_events E es ≡ true)
  good_first e es h =
      let a = and_parts (is_event E e) _ h in
      let b = and_parts (leb 1 e) (leb e E) a.0 in
      let c = and_parts (not (named e es)) (good_events E es) a.1 in
      (leb-true 1 e b.0, leb-true e E b.1, not-true _ c.0, c.1)

  good_low : (es : List ℕ) (i : ℕ) → good_events E es ≡ true → i < length es → 1 ≤ at es i
  good_low [] i h l = absurd (omega arith)
  good_low (e ∷ es) zero h l = (good_first e es h).0
  good_low (e ∷ es) (suc i) h l = good_low es i (good_first e es h).3 (omega arith)

  good_apart : (es : List ℕ) (i j : ℕ) → good_events E es ≡ true → i < length es → j < length es → at es i ≡ at es j → i ≡ j
  good_apart [] i j h l k q = absurd (omega arith)
  good_apart (e ∷ es) zero zero h l k q = refl
  good_apart (e ∷ es) zero (suc j) h l k q =
      absurd (both_ways (named e es) (good_first e es h).2 (subst (λ z. named z es ≡ true) (sym q) (place_named es j (omega arith))))
  good_apart (e ∷ es) (suc i) zero h l k q =
      absurd (both_ways (named e es) (good_first e es h).2 (subst (λ z. named z es ≡ true) q (place_named es i (omega arith))))
  good_apart (e ∷ es) (suc i) (suc j) h l k q = ap suc (good_apart es i j (good_first e es h).3 (omega arith) (omega arith) q)

  good_top : (es : List ℕ) → good_events E es ≡ true → top es ≤ E
  good_top [] h = omega arith
  good_top (e ∷ es) h = let a = good_first e es h in omega (arith, a.1, good_top es a.3)

top_at : (es : List ℕ) (i : ℕ) → i < length es → at es i ≤ top es
top_at [] i l = absurd (omega arith)
top_at (e ∷ es) zero l = omega arith
top_at (e ∷ es) (suc i) l = omega (arith, top_at es i (omega arith))

-- events that are good at all are a chain up to any number that their highest does not pass
pub good_chain : (E n : ℕ) (es : List ℕ) → 0 < length es → good_events E es ≡ true → top es ≤ n → Chain n es
good_chain E n es s h t = record {
  some = s;
  low = λ i l. good_low E es i h l;
  high = λ i l. omega (arith, top_at es i l);
  apart = λ i j l k q. good_apart E es i j h l k q;
}

-- events up to a number are events up to a larger
pub good_more : (E E' : ℕ) (es : List ℕ) → E ≤ E' → good_events E es ≡ true → good_events E' es ≡ true
good_more E E' [] l h = refl
good_more E E' (e ∷ es) l h =
    let a = and_parts (is_event E e) _ h in
    let b = and_parts (leb 1 e) (leb e E) a.0 in
    let c = and_parts (not (named e es)) (good_events E es) a.1 in
    and_from _ _ (and_from _ _ b.0 (le-leb e E' (omega (arith, leb-true e E b.1)))) (and_from _ _ c.0 (good_more E E' es l c.1))

chain_names : (n : ℕ) (es : List ℕ) → Chain n es → Names n es
chain_names n es c = record {
  some = c.some;
  low = λ e h. let r = named_place e es h in subst (λ z. 1 ≤ z) r.2 (c.low r.0 r.1);
  high = λ e h. let r = named_place e es h in subst (λ z. z ≤ n) r.2 (c.high r.0 r.1);
}

module _ {A : Type 0} (in_range : A → Bool) (names : A → List ℕ) where
  -- what the test says of each record
  pub sound_at : (E : ℕ) (rs : List A) (k : ℕ) (d : A) → sound in_range names E rs ≡ true → k < length rs →
      (in_range (get_or rs k d) ≡ true) × (good_events E (names (get_or rs k d)) ≡ true)
  sound_at E [] k d h l = absurd (omega arith)
  sound_at E (r ∷ rs) zero d h l = and_parts (in_range r) (good_events E (names r)) (and_parts _ (sound in_range names E rs) h).0
  sound_at E (r ∷ rs) (suc k) d h l = sound_at E rs k d (and_parts (in_range r && good_events E (names r)) (sound in_range names E rs) h).1 (omega arith)

  pub highest_at : (rs : List A) (k : ℕ) (d : A) → k < length rs → top (names (get_or rs k d)) ≤ highest names rs
  highest_at [] k d l = absurd (omega arith)
  highest_at (r ∷ rs) zero d l = omega arith
  highest_at (r ∷ rs) (suc k) d l = omega (arith, highest_at rs k d (omega arith))

  pub highest_sound : (E : ℕ) (rs : List A) → sound in_range names E rs ≡ true → highest names rs ≤ E
  highest_sound E [] h = omega arith
  highest_sound E (r ∷ rs) h =
      let p = and_parts (in_range r && good_events E (names r)) (sound in_range names E rs) h in
      omega (arith, good_top E (names r) (and_parts (in_range r) (good_events E (names r)) p.0).1, highest_sound E rs p.1)

  pub sound_more : (E E' : ℕ) (rs : List A) → E ≤ E' → sound in_range names E rs ≡ true → sound in_range names E' rs ≡ true
  sound_more E E' [] l h = refl
  sound_more E E' (r ∷ rs) l h =
      let p = and_parts (in_range r && good_events E (names r)) (sound in_range names E rs) h in
      let q = and_parts (in_range r) (good_events E (names r)) p.0 in
      and_from _ _ (and_from _ _ q.0 (good_more E E' (names r) l q.1)) (sound_more E E' rs l p.1)

  -- the events of each record, up to the highest of the table
  module _ (some : (r : A) → in_range r ≡ true → 0 < length (names r)) where
    pub chain_at : (E n : ℕ) (rs : List A) (k : ℕ) (d : A) → sound in_range names E rs ≡ true → k < length rs → highest names rs ≤ n → Chain n (names (get_or rs k d))
    chain_at E n rs k d h l t =
        let s = sound_at E rs k d h l in
        good_chain E n (names (get_or rs k d)) (some (get_or rs k d) s.0) s.1 (omega (arith, highest_at rs k d l))

pub relation_at : {A : Type 0} (f : A → Relation) (rs : List A) (k : ℕ) (d : A) → k < length rs → get_or (map f rs) k idle ≡ f (get_or rs k d)
relation_at f [] k d l = absurd (omega arith)
relation_at f (r ∷ rs) zero d l = refl
relation_at f (r ∷ rs) (suc k) d l = relation_at f rs k d (omega arith)

-- a table of records that narrow exactly keeps the laws
pub table_lawful : {A : Type 0} (in_range : A → Bool) (names : A → List ℕ) (met : A → List ℕ → Bool) (T E : ℕ) (rs : List A) →
    ((r : A) → in_range r ≡ true → 0 < length (names r)) → sound in_range names E rs ≡ true →
    Laws (record { period = T; reach = highest names rs; relations = map (λ r. exactly T (names r) (met r)) rs })
table_lawful in_range names met T E [] some h = record {
  deflation = λ k l. absurd (omega arith);
  soundness = λ k l. absurd (omega arith);
  exactness = λ k l. absurd (omega arith);
  monotony = λ k l. absurd (omega arith);
  silence = λ k l. absurd (omega arith);
  confinement = λ k l. absurd (omega arith);
}
table_lawful {A} in_range names met T E (r ∷ rs) some h = record {
  deflation = λ k l. (each k l).deflation;
  soundness = λ k l. (each k l).soundness;
  exactness = λ k l. (each k l).exactness;
  monotony = λ k l. (each k l).monotony;
  silence = λ k l. (each k l).silence;
  confinement = λ k l. (each k l).confinement;
}
  where
    all : List A
    all = r ∷ rs

    f : A → Relation
    f q = exactly T (names q) (met q)

    each : (k : ℕ) → k < length (map f all) → Lawful T (highest names all) (get_or (map f all) k idle)
    each k l =
        let n : k < length all = omega (arith, length-map all f) in
        subst (Lawful T (highest names all)) (sym (relation_at f all k r n))
        (exact_is_lawful T (highest names all) (names (get_or all k r)) (met (get_or all k r))
        (chain_names (highest names all) (names (get_or all k r)) (chain_at in_range names some E (highest names all) all k r h n (omega arith))))
