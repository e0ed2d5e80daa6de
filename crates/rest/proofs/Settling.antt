-- Narrowing to rest: what is reached in any order is the rest, and some order reaches it.
use Rattle.std.proofs.Common.{◌≡◌, ℕ, zero, suc, ◌^◌, ◌<◌, ◌≤◌, List, [], ◌∷◌, length, sym, ◌∙◌, subst, inl, inr, arith, pow_pos}
use Rattle.std.proofs.lemmas.Bool.{cases_lt}
use Rattle.std.proofs.lemmas.List.{get_or-map, length-map}
use Rattle.minutes.specs.Minutes.{Within, Timetable, Lies, NoneEmpty, single, at}
use Rattle.relations.specs.Meaning.{Meaning, Laws, relation, size}
use Rattle.rest.specs.Rest.{Stable, Rest, narrowed, Numbers, Suits, Meets}
use Rattle.rest.specs.Theory.{OneRest, AnyOrder, SomeOrder, NoneLost, SinglesMeet, RestAgain, RestGrows}
use Rattle.rest.proofs.Families.{within_refl, within_trans, within_same, suits_within, total, total_same}

pub rest_grows : RestGrows
rest_grows m f g r s w a b = b.largest r a.stable (within_trans r f g a.inside w)

pub one_rest : OneRest
one_rest m f r s a b = within_same r s (rest_grows m f f r s (within_refl f) a b) (rest_grows m f f s r (within_refl f) b a)

pub rest_again : RestAgain
rest_again m f r a = record {
  itself = record { stable = a.stable; inside = within_refl r; largest = λ s t w. w };
  between = λ g u v. record { stable = a.stable; inside = u; largest = λ s t w. a.largest s t (within_trans s g f w v) };
}

numbers_tail : (m : Meaning) (k : ℕ) (ks : List ℕ) → Numbers m (k ∷ ks) → Numbers m ks
numbers_tail m k ks h i l = h (suc i) (omega arith)

-- g came from f by narrowing: it lies in f, and above every stable family in f
pub record Came (m : Meaning) (f g : List ℕ) : Type 0 where
  pub inside : Within g f
  pub above : (s : List ℕ) → Stable m s → Within s f → Within s g

pub came_refl : (m : Meaning) (f : List ℕ) → Came m f f
came_refl m f = record { inside = within_refl f; above = λ s t w. w }

pub came_trans : (m : Meaning) (f g h : List ℕ) → Came m f g → Came m g h → Came m f h
came_trans m f g h a b = record { inside = within_trans h g f b.inside a.inside; above = λ s t w. b.above s t (a.above s t w) }

pub came_suits : (m : Meaning) (f g : List ℕ) → Suits m f → Came m f g → Suits m g
came_suits m f g h c = suits_within m f g h c.inside

pub came_rest : (m : Meaning) (f g : List ℕ) → Came m f g → Stable m g → Rest m f g
came_rest m f g c t = record { stable = t; inside = c.inside; largest = c.above }

module _ (m : Meaning) (laws : Laws m) where
  pub came_once : (k : ℕ) (f : List ℕ) → k < size m → Suits m f → Came m f ((relation m k).narrowing f)
  came_once k f l h = record {
    inside = laws.deflation k l f h.long h.words;
    above = λ s t w.
        let i = suits_within m f s h w in
        subst (λ z. Within z ((relation m k).narrowing f)) (t k l) (laws.monotony k l s f i.long i.words h.words w);
  }

  came_narrowed : (ks f : List ℕ) → Numbers m ks → Suits m f → Came m f (narrowed m ks f)
  came_narrowed [] f n h = came_refl m f
  came_narrowed (k ∷ ks) f n h =
      let c = came_once k f (n 0 (omega arith)) h in
      came_trans m _ _ _ c (came_narrowed ks ((relation m k).narrowing f) (numbers_tail m k ks n) (came_suits m f _ h c))

  any_order_at : (f ks : List ℕ) → Suits m f → Numbers m ks → Stable m (narrowed m ks f) → Rest m f (narrowed m ks f)
  any_order_at f ks h n t = came_rest m f (narrowed m ks f) (came_narrowed ks f n h) t

  -- some relation below j takes a minute away, or none does
  data Look (f : List ℕ) (j : ℕ) : Type 0 where
    still : ((k : ℕ) → k < j → (relation m k).narrowing f ≡ f) → Look f j
    moves : (k : ℕ) → k < size m → total ((relation m k).narrowing f) < total f → Look f j

  look : (f : List ℕ) → Suits m f → (j : ℕ) → j ≤ size m → Look f j
  look f h zero l = still (λ k q. absurd (omega arith))
  look f h (suc j) l =
      elim (look f h j (omega arith)) [
        | still s ↦ elim (cases_lt (total ((relation m j).narrowing f)) (total f)) [
          | inl q ↦ moves j l q
          | inr q ↦ still (λ k u. elim (cases_lt k j) [
            | inl v ↦ s k v
            | inr v ↦ let e : j ≡ k = omega arith in
                subst (λ z. (relation m z).narrowing f ≡ f) e (total_same ((relation m j).narrowing f) f (laws.deflation j l f h.long h.words) q)
          ])
        ]
        | moves k u v ↦ moves k u v
      ]

  settling : (n : ℕ) (f : List ℕ) → Suits m f → total f < n → (ks : List ℕ) × Numbers m ks × Stable m (narrowed m ks f)
  settling zero f h l = absurd (omega arith)
  settling (suc n) f h l =
      elim (look f h (size m) (omega arith)) [
        | still s ↦ ([], (λ i q. absurd (omega arith)), s)
        | moves k u v ↦
            let r = settling n ((relation m k).narrowing f) (came_suits m f _ h (came_once k f u h)) (omega arith) in
            (k ∷ r.0, (elim [ zero ↦ λ q. u | suc i ↦ λ q. r.1 i (omega arith) ]), r.2)
      ]

  -- a timetable that meets every relation is never lost by narrowing
  lies_narrowed : (ks f x : List ℕ) → Numbers m ks → Suits m f → Timetable m.period (length f) x → Lies x f → Meets m x → Lies x (narrowed m ks f)
  lies_narrowed [] f x n h t l c = l
  lies_narrowed (k ∷ ks) f x n h t l c =
      let i = n 0 (omega arith) in
      let d = came_once k f i h in
      let e = d.inside.len in
      lies_narrowed ks ((relation m k).narrowing f) x (numbers_tail m k ks n) (came_suits m f _ h d)
      (record { len = t.len ∙ sym e; minute = λ j u. t.minute j (omega arith) })
      (laws.soundness k i f x h.long h.words t l (c k i)) c

pub any_order : AnyOrder
any_order = any_order_at

pub some_order : SomeOrder
some_order m laws f h = settling m laws (suc (total f)) f h (omega arith)

pub none_lost : NoneLost
none_lost m laws f r x h a t l c =
    let s = some_order m laws f h in
    subst (λ z. Lies x z) (one_rest m f _ r (any_order m laws f s.0 h s.1 s.2) a) (lies_narrowed m laws s.0 f x s.1 h t l c)

single_full : (x : List ℕ) → NoneEmpty (single x)
single_full x i h =
    let l : i < length x = omega (arith, length-map x (λ m. 2 ^ m)) in
    subst (λ z. 0 < z) (sym (get_or-map (λ m. 2 ^ m) x i 0 0 l)) (pow_pos (at x i))

pub singles_meet : SinglesMeet
singles_meet m laws x h t s k l = (laws.exactness k l).only x h t (subst (λ z. NoneEmpty z) (sym (s k l)) (single_full x))
