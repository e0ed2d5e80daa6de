-- The laws of narrowed narrowing, for every condition.
use Rattle.std.proofs.Common.{◌≡◌, ℕ, zero, suc, ◌+◌, ◌-◌, ◌^◌, ◌<◌, ◌≤◌, Bool, true, false, cond, ◌&&◌, eqb, List, [], ◌∷◌, map, length, get_or, take, drop, sym, refl, ap, ◌∙◌, subst, inl, inr, arith}
use Rattle.std.proofs.lemmas.Bool.{eqb-true, eq-eqb, ne_eqb, cases_Bool, cases_lt, cases_eq, cond-true, cond-false, and_parts, and_from}
use Rattle.std.proofs.lemmas.List.{ext_get_or, get_or_past, get_or-map, length-map, length-take, length-drop, get_or-take, get_or-drop}
use Rattle.minutes.specs.Minutes.{In, Sub, Within, Timetable, Lies, NoneEmpty, at}
use Rattle.relations.specs.Meaning.{Long}
use Rattle.relations.specs.ExactNarrowing.{has, named, of, choice, fixing, kept, each, narrowed, exactly, Names, Lawful, ExactIsLawful}
use Rattle.minutes.proofs.Sets.{no_minute, same_sets, not_empty, some_minute, in_pow, pow_in}
use Rattle.relations.proofs.Tests.{has_in, in_has, in_those, those_in, choice_from, choice_single, choice_more, named_head, same_map}

pub length_each : (g : ℕ → ℕ → ℕ) (e : ℕ) (f : List ℕ) → length (each g e f) ≡ length f
length_each g e [] = refl
length_each g e (s ∷ f) = ap suc (length_each g (suc e) f)

pub at_each : (g : ℕ → ℕ → ℕ) (e : ℕ) (f : List ℕ) (i : ℕ) → i < length f → at (each g e f) i ≡ g (e + i) (at f i)
at_each g e [] i h = absurd (omega arith)
at_each g e (s ∷ f) zero h = let k : e ≡ e + 0 = omega arith in ap (λ d. g d s) k
at_each g e (s ∷ f) (suc i) h = let k : suc e + i ≡ e + suc i = omega arith in at_each g (suc e) f i (omega arith) ∙ ap (λ d. g d (at f i)) k

module _ (T : ℕ) (names : List ℕ) (c : List ℕ → Bool) where
  pub length_narrowed : (f : List ℕ) → length (narrowed T names c f) ≡ length f
  length_narrowed f = length_each (λ e s. cond (named e names) (kept T names c f e s) s) 1 f

  -- what stands at a place after the narrowing
  pub at_narrowed : (f : List ℕ) (i : ℕ) → i < length f → at (narrowed T names c f) i ≡ cond (named (suc i) names) (kept T names c f (suc i) (at f i)) (at f i)
  at_narrowed f i h =
      let k : 1 + i ≡ suc i = omega arith in
      at_each (λ e s. cond (named e names) (kept T names c f e s) s) 1 f i h ∙ ap (λ e. cond (named e names) (kept T names c f e (at f i)) (at f i)) k

  pub at_named : (f : List ℕ) (i : ℕ) → i < length f → named (suc i) names ≡ true → at (narrowed T names c f) i ≡ kept T names c f (suc i) (at f i)
  at_named f i h n = at_narrowed f i h ∙ cond-true _ _ _ n

  pub at_other : (f : List ℕ) (i : ℕ) → i < length f → named (suc i) names ≡ false → at (narrowed T names c f) i ≡ at f i
  at_other f i h n = at_narrowed f i h ∙ cond-false _ _ _ n

  pub at_past : (f : List ℕ) (i : ℕ) → length f ≤ i → at (narrowed T names c f) i ≡ 0
  at_past f i h = get_or_past (narrowed T names c f) i 0 (omega (arith, length_narrowed f))

  -- the minutes that a named event keeps
  pub in_kept : (f : List ℕ) (e s m : ℕ) → In m (kept T names c f e s) → (m < T) × In m s × (choice T (fixing f e m) names c ≡ true)
  in_kept f e s m h =
      let r = in_those T (λ t. has t s && choice T (fixing f e t) names c) m h in
      let a = and_parts (has m s) (choice T (fixing f e m) names c) r.1 in
      (r.0, has_in m s a.0, a.1)

  pub kept_in : (f : List ℕ) (e s m : ℕ) → m < T → In m s → choice T (fixing f e m) names c ≡ true → In m (kept T names c f e s)
  kept_in f e s m l i k = those_in T (λ t. has t s && choice T (fixing f e t) names c) m l (and_from _ _ (in_has m s i) k)

  -- a list is the narrowed family if it is so at each named place and the same at any other
  pub is_narrowed : (f g : List ℕ) → length g ≡ length f
      → ((i : ℕ) → i < length f → named (suc i) names ≡ true → at g i ≡ kept T names c f (suc i) (at f i))
      → ((i : ℕ) → i < length f → named (suc i) names ≡ false → at g i ≡ at f i) → g ≡ narrowed T names c f
  is_narrowed f g l a b = ext_get_or 0 g (narrowed T names c f) (l ∙ sym (length_narrowed f)) (λ i h.
      let k : i < length f = omega arith in
      elim (cases_Bool (named (suc i) names)) [
        | inl n ↦ a i k n ∙ sym (at_named f i k n)
        | inr n ↦ b i k n ∙ sym (at_other f i k n)
      ])

  -- what a minute may be under `fixing`
  pub fixing_here : (f : List ℕ) (e m t : ℕ) → fixing f e m e t ≡ true → t ≡ m
  fixing_here f e m t h = eqb-true t m (sym (cond-true (eqb e e) (eqb t m) (has t (of f e)) (eq-eqb e e refl)) ∙ h)

  pub fixing_there : (f : List ℕ) (e m d t : ℕ) → (d ≡ e → ⊥) → fixing f e m d t ≡ true → In t (of f d)
  fixing_there f e m d t n h = has_in t (of f d) (sym (cond-false (eqb d e) (eqb t m) (has t (of f d)) (ne_eqb d e n)) ∙ h)

  pub fixing_from : (f : List ℕ) (e m d t : ℕ) → (d ≡ e → t ≡ m) → ((d ≡ e → ⊥) → In t (of f d)) → fixing f e m d t ≡ true
  fixing_from f e m d t a b = elim (cases_eq d e) [
    | inl k ↦ cond-true (eqb d e) (eqb t m) (has t (of f d)) (eq-eqb d e k) ∙ eq-eqb t m (a k)
    | inr n ↦ cond-false (eqb d e) (eqb t m) (has t (of f d)) (ne_eqb d e n) ∙ in_has t (of f d) (b n)
  ]

  -- narrowing follows the sets of the named events and the set in question
  pub kept_sub : (f g : List ℕ) (e s r : ℕ) → ((d : ℕ) → named d names ≡ true → Sub (of f d) (of g d)) → Sub s r
      → Sub (kept T names c f e s) (kept T names c g e r)
  kept_sub f g e s r h k m i =
      let a = in_kept f e s m i in
      kept_in g e r m a.0 (k m a.1) (choice_more T (fixing f e m) (fixing g e m) names c
      (λ d t n u. fixing_from g e m d t
      (λ q. fixing_here f e m t (subst (λ z. fixing f e m z t ≡ true) q u))
      (λ q. h d n t (fixing_there f e m d t q u)))
      a.2)

some_name : (names : List ℕ) → 0 < length names → (e : ℕ) × (named e names ≡ true)
some_name [] h = absurd (omega arith)
some_name (e ∷ es) h = (e, named_head e es)

module _ (T reach : ℕ) (names : List ℕ) (c : List ℕ → Bool) (all : Names reach names) where
  -- a named event's place is within the reach
  place_low : (d : ℕ) → named d names ≡ true → d - 1 < reach
  place_low d n = omega (arith, all.low d n, all.high d n)

  unnamed : (i : ℕ) → reach ≤ i → named (suc i) names ≡ false
  unnamed i h = elim (cases_Bool (named (suc i) names)) [ inl n ↦ absurd (omega (arith, all.high (suc i) n)) | inr n ↦ n ]

  deflation : (f : List ℕ) → Within (narrowed T names c f) f
  deflation f = record { len = length_narrowed T names c f; sub = sub }
    where
      sub : (i : ℕ) → Sub (at (narrowed T names c f) i) (at f i)
      sub i m h = elim (cases_lt i (length f)) [
        | inl l ↦ elim (cases_Bool (named (suc i) names)) [
          | inl n ↦ (in_kept T names c f (suc i) (at f i) m (subst (In m) (at_named T names c f i l n) h)).1
          | inr n ↦ subst (In m) (at_other T names c f i l n) h
        ]
        | inr l ↦ absurd (no_minute m (subst (In m) (at_past T names c f i l) h))
      ]

  soundness : (f x : List ℕ) → Long reach f → Timetable T (length f) x → Lies x f → c (map (of x) names) ≡ true → Lies x (narrowed T names c f)
  soundness f x fits tt' lies k = record { len = lies.len ∙ sym (length_narrowed T names c f); each = in_each }
    where
      in_each : (i : ℕ) → i < length x → In (at x i) (at (narrowed T names c f) i)
      in_each i h =
          let l : i < length f = omega (arith, lies.len) in
          elim (cases_Bool (named (suc i) names)) [
            | inl n ↦ subst (In (at x i)) (sym (at_named T names c f i l n))
                (kept_in T names c f (suc i) (at f i) (at x i) (tt'.minute i l) (lies.each i h)
                (choice_from T (fixing f (suc i) (at x i)) names c (of x)
                (λ d q. let p : d - 1 < length f = omega (arith, place_low d q, fits.low) in (
                  tt'.minute (d - 1) p,
                  fixing_from T names c f (suc i) (at x i) d (of x d)
                      (λ r. let s : d - 1 ≡ i = omega arith in ap (at x) s)
                      (λ r. lies.each (d - 1) (omega (arith, lies.len))),
                )) k))
            | inr n ↦ subst (In (at x i)) (sym (at_other T names c f i l n)) (lies.each i h)
          ]

  -- the family of a timetable's minutes alone
  at_singles : (x : List ℕ) (i : ℕ) → i < length x → at (map (λ t. 2 ^ t) x) i ≡ 2 ^ at x i
  at_singles x i h = get_or-map (λ t. 2 ^ t) x i 0 0 h

  lies_singles : (x : List ℕ) → Lies x (map (λ t. 2 ^ t) x)
  lies_singles x = record { len = sym (length-map x (λ t. 2 ^ t)); each = λ i h. subst (In (at x i)) (sym (at_singles x i h)) (pow_in (at x i)) }

  single_only : (x : List ℕ) → Long reach x → Timetable T (length x) x → NoneEmpty (narrowed T names c (map (λ t. 2 ^ t) x)) → c (map (of x) names) ≡ true
  single_only x fits t full =
      let f : List ℕ = map (λ t. 2 ^ t) x in
      let one = some_name names all.some in
      let e : ℕ = one.0 in
      let n : named e names ≡ true = one.1 in
      let lf : length f ≡ length x = length-map x (λ t. 2 ^ t) in
      let i : ℕ = e - 1 in
      let q : suc i ≡ e = omega (arith, all.low e n) in
      let l : i < length f = omega (arith, lf, place_low e n, fits.low) in
      let n' : named (suc i) names ≡ true = subst (λ d. named d names ≡ true) (sym q) n in
      let r = some_minute (at (narrowed T names c f) i) (full i (omega (arith, length_narrowed T names c f))) in
      let a = in_kept T names c f (suc i) (at f i) r.0 (subst (In r.0) (at_named T names c f i l n') r.1) in
      choice_single T (fixing f (suc i) r.0) names c (of x)
      (λ d u k h. let p : d - 1 < length x = omega (arith, place_low d k, fits.low) in
      elim (cases_eq d (suc i)) [
        | inl z ↦
            let m : u ≡ r.0 = fixing_here T names c f (suc i) r.0 u (subst (λ w. fixing f (suc i) r.0 w u ≡ true) z h) in
            let w : d - 1 ≡ i = omega arith in
            m ∙ in_pow r.0 (at x i) (subst (In r.0) (at_singles x i (omega (arith, lf))) a.1) ∙ ap (at x) (sym w)
        | inr z ↦ in_pow u (of x d) (subst (In u) (at_singles x (d - 1) p) (fixing_there T names c f (suc i) r.0 d u z h))
      ])
      a.2

  monotony : (f g : List ℕ) → Within f g → Within (narrowed T names c f) (narrowed T names c g)
  monotony f g w = record { len = length_narrowed T names c f ∙ w.len ∙ sym (length_narrowed T names c g); sub = sub }
    where
      sub : (i : ℕ) → Sub (at (narrowed T names c f) i) (at (narrowed T names c g) i)
      sub i m h = elim (cases_lt i (length f)) [
        | inl l ↦ let l' : i < length g = omega (arith, w.len) in elim (cases_Bool (named (suc i) names)) [
          | inl n ↦ subst (In m) (sym (at_named T names c g i l' n)) (kept_sub T names c f g (suc i) (at f i) (at g i) (λ d k. w.sub (d - 1)) (w.sub i) m (subst (In m) (at_named T names c f i l n) h))
          | inr n ↦ subst (In m) (sym (at_other T names c g i l' n)) (w.sub i m (subst (In m) (at_other T names c f i l n) h))
        ]
        | inr l ↦ absurd (no_minute m (subst (In m) (at_past T names c f i l) h))
      ]

  silence_kept : (f : List ℕ) → Long reach f → drop reach (narrowed T names c f) ≡ drop reach f
  silence_kept f fits = ext_get_or 0 _ _
      (length-drop reach (narrowed T names c f) ∙ ap (λ n. n - reach) (length_narrowed T names c f) ∙ sym (length-drop reach f))
      (λ i h. let l : reach + i < length f = omega (arith, length-drop reach (narrowed T names c f), length_narrowed T names c f) in
      get_or-drop reach (narrowed T names c f) i 0 ∙ at_other T names c f (reach + i) l (unnamed (reach + i) (omega arith)) ∙ sym (get_or-drop reach f i 0))

  same_at : (f g : List ℕ) → take reach f ≡ take reach g → (i : ℕ) → i < reach → at f i ≡ at g i
  same_at f g e i h = sym (get_or-take reach f i 0 h) ∙ ap (λ l. get_or l i 0) e ∙ get_or-take reach g i 0 h

  silence_read : (f g : List ℕ) → Long reach f → Long reach g → take reach f ≡ take reach g → take reach (narrowed T names c f) ≡ take reach (narrowed T names c g)
  silence_read f g a b e = ext_get_or 0 _ _
      (omega (arith, length-take reach (narrowed T names c f), length-take reach (narrowed T names c g), length_narrowed T names c f, length_narrowed T names c g, a.low, b.low))
      (λ i h. let l : i < reach = omega (arith, length-take reach (narrowed T names c f)) in
      get_or-take reach (narrowed T names c f) i 0 l ∙ same i l ∙ sym (get_or-take reach (narrowed T names c g) i 0 l))
    where
      to : (f g : List ℕ) → take reach f ≡ take reach g → (i : ℕ) → i < reach → Sub (kept T names c f (suc i) (at f i)) (kept T names c g (suc i) (at g i))
      to f g e i l = kept_sub T names c f g (suc i) (at f i) (at g i)
          (λ d n. subst (λ z. Sub (of f d) z) (same_at f g e (d - 1) (place_low d n)) (λ m k. k))
          (subst (λ z. Sub (at f i) z) (same_at f g e i l) (λ m k. k))

      same : (i : ℕ) → i < reach → at (narrowed T names c f) i ≡ at (narrowed T names c g) i
      same i l =
          let p : i < length f = omega (arith, a.low) in
          let q : i < length g = omega (arith, b.low) in
          elim (cases_Bool (named (suc i) names)) [
            | inl n ↦ at_named T names c f i p n ∙ same_sets _ _ (to f g e i l) (to g f (sym e) i l) ∙ sym (at_named T names c g i q n)
            | inr n ↦ at_other T names c f i p n ∙ same_at f g e i l ∙ sym (at_other T names c g i q n)
          ]

  pub lawful : Lawful T reach (exactly T names c)
  lawful = record {
    deflation = λ f h w. deflation f;
    soundness = λ f x h w t l k. soundness f x h t l k;
    exactness = record { only = λ x h t l. single_only x h t l; met = λ x h t k. full x h t k };
    monotony = λ f g h w v. monotony f g;
    silence = record { kept = λ f h w. silence_kept f h; unread = λ f g h k w v. silence_read f g h k };
    confinement = λ x y h k e. ap c (same_map (of x) (of y) names (λ d n. same_at x y e (d - 1) (place_low d n)));
  }
    where
      full : (x : List ℕ) → Long reach x → Timetable T (length x) x → c (map (of x) names) ≡ true → NoneEmpty (narrowed T names c (map (λ t. 2 ^ t) x))
      full x h t k i l =
          let lf : length (map (λ t. 2 ^ t) x) ≡ length x = length-map x (λ t. 2 ^ t) in
          let s = soundness (map (λ t. 2 ^ t) x) x (record { low = omega (arith, h.low); high = omega (arith, h.high) })
          (subst (λ n. Timetable T n x) (sym lf) t) (lies_singles x) k in
          not_empty (at x i) _ (s.each i (omega (arith, length_narrowed T names c (map (λ t. 2 ^ t) x))))

pub exact_is_lawful : ExactIsLawful
exact_is_lawful T reach names c all = lawful T reach names c all
