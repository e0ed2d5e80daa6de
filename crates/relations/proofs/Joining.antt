-- The laws of joined and of waived relations.
use Rattle.std.proofs.Common.{◌≡◌, ℕ, zero, suc, ◌+◌, ◌-◌, ◌^◌, ◌<◌, ◌≤◌, max, Bool, true, false, cond, eqb, List, [], ◌∷◌, ◌++◌, length, get_or, take, drop, sym, refl, ap, ◌∙◌, subst, inl, inr, arith}
use Rattle.std.proofs.lemmas.Bool.{eqb-true, cases_lt, cond_both}
use Rattle.std.proofs.lemmas.List.{ext_get_or, get_or-map, length-map, length-take, length-append, get_or-take, get_or-drop, get_or_append_left, get_or-append_right, take-take, drop-drop}
use Rattle.std.proofs.lemmas.Nat.{pow_pos}
use Rattle.minutes.specs.Minutes.{Timetable, Words, at}
use Rattle.relations.specs.Meaning.{Meaning, Relation, Long, idle, relation, size, Deflates, Sound, Exact, Monotone, Silent, Confined}
use Rattle.relations.specs.Joins.{common, joined, waived_from, waived, JoinsAreLawful}

-- a longer reach asks for longer lists, a smaller period for smaller minutes
long_wider : {r r' : ℕ} → r ≤ r' → (f : List ℕ) → Long r' f → Long r f
long_wider q f h = record { low = omega (arith, h.low); high = h.high }

timetable_wider : {T T' : ℕ} → T' ≤ T → (n : ℕ) (x : List ℕ) → Timetable T' n x → Timetable T n x
timetable_wider p n x t = record { len = t.len; minute = λ i h. omega (arith, t.minute i h) }

-- the first places of lists that agree further
front : (r r' : ℕ) (f g : List ℕ) → r ≤ r' → take r' f ≡ take r' g → take r f ≡ take r g
front r r' f g q e = sym (take-take r r' f q) ∙ ap (take r) e ∙ take-take r r' g q

same_at : (n : ℕ) (f g : List ℕ) → take n f ≡ take n g → (i : ℕ) → i < n → at f i ≡ at g i
same_at n f g e i h = sym (get_or-take n f i 0 h) ∙ ap (λ l. get_or l i 0) e ∙ get_or-take n g i 0 h

-- a law that is kept at a period and a reach is kept at a smaller period and a longer reach
deflates_wider : {r r' : ℕ} → r ≤ r' → (R : Relation) → Deflates r R → Deflates r' R
deflates_wider q R k f h = k f (long_wider q f h)

sound_wider : {T T' r r' : ℕ} → T' ≤ T → r ≤ r' → (R : Relation) → Sound T r R → Sound T' r' R
sound_wider p q R k f x h w t = k f x (long_wider q f h) w (timetable_wider p (length f) x t)

exact_wider : {T T' r r' : ℕ} → T' ≤ T → r ≤ r' → (R : Relation) → Exact T r R → Exact T' r' R
exact_wider p q R k = record {
  only = λ x h t. k.only x (long_wider q x h) (timetable_wider p (length x) x t);
  met = λ x h t. k.met x (long_wider q x h) (timetable_wider p (length x) x t);
}

monotone_wider : {r r' : ℕ} → r ≤ r' → (R : Relation) → Monotone r R → Monotone r' R
monotone_wider q R k f g h = k f g (long_wider q f h)

confined_wider : {r r' : ℕ} → r ≤ r' → (R : Relation) → Confined r R → Confined r' R
confined_wider {r} {r'} q R k x y h j e = k x y (long_wider q x h) (long_wider q y j) (front r r' x y q e)

module _ (r r' : ℕ) (q : r ≤ r') (R : Relation) (d : Deflates r R) (k : Silent r R) where
  behind : (f : List ℕ) → Long r f → Words f → (i : ℕ) → r ≤ i → at (R.narrowing f) i ≡ at f i
  behind f h w i l =
      let e : i ≡ r + (i - r) = omega arith in
      ap (at (R.narrowing f)) e ∙ sym (get_or-drop r (R.narrowing f) (i - r) 0) ∙ ap (λ z. get_or z (i - r) 0) (k.kept f h w)
      ∙ get_or-drop r f (i - r) 0 ∙ ap (at f) (sym e)

  kept : (f : List ℕ) → Long r' f → Words f → drop r' (R.narrowing f) ≡ drop r' f
  kept f h w =
      let e : r' ≡ r + (r' - r) = omega arith in
      subst (λ n. drop n (R.narrowing f) ≡ drop n f) (sym e)
      (sym (drop-drop (r' - r) r (R.narrowing f)) ∙ ap (drop (r' - r)) (k.kept f (long_wider q f h) w) ∙ drop-drop (r' - r) r f)

  place : (f g : List ℕ) → Long r' f → Long r' g → Words f → Words g → take r' f ≡ take r' g → (i : ℕ) → i < r' →
      at (R.narrowing f) i ≡ at (R.narrowing g) i
  place f g h j w v e i u = elim (cases_lt i r) [
    | inl l ↦ same_at r (R.narrowing f) (R.narrowing g) (k.unread f g (long_wider q f h) (long_wider q g j) w v (front r r' f g q e)) i l
    | inr l ↦ behind f (long_wider q f h) w i l ∙ same_at r' f g e i u ∙ sym (behind g (long_wider q g j) v i l)
  ]

  unread : (f g : List ℕ) → Long r' f → Long r' g → Words f → Words g → take r' f ≡ take r' g →
      take r' (R.narrowing f) ≡ take r' (R.narrowing g)
  unread f g h j w v e = ext_get_or 0 (take r' (R.narrowing f)) (take r' (R.narrowing g))
      (omega (arith, length-take r' (R.narrowing f), length-take r' (R.narrowing g), (d f (long_wider q f h) w).len, (d g (long_wider q g j) v).len, h.low, j.low))
      (λ i l. let u : i < r' = omega (arith, length-take r' (R.narrowing f)) in
      get_or-take r' (R.narrowing f) i 0 u ∙ place f g h j w v e i u ∙ sym (get_or-take r' (R.narrowing g) i 0 u))

  silent_wider : Silent r' R
  silent_wider = record { kept = kept; unread = unread }

pub common_left : (a b : ℕ) → common a b ≤ a
common_left a b = cond_both (eqb a b) a 0 (λ z. z ≤ a) (λ e. omega arith) (λ e. omega arith)

pub common_right : (a b : ℕ) → common a b ≤ b
common_right a b = cond_both (eqb a b) a 0 (λ z. z ≤ b) (λ e. omega (arith, eqb-true a b e)) (λ e. omega arith)

pub relation_left : (m n : Meaning) (k : ℕ) → k < size m → relation (joined m n) k ≡ relation m k
relation_left m n k h = get_or_append_left m.relations n.relations idle k h

pub relation_right : (m n : Meaning) (k : ℕ) → size m ≤ k → relation (joined m n) k ≡ relation n (k - size m)
relation_right m n k h = get_or-append_right m.relations n.relations (size m) k idle refl h

-- each relation of a list, by number
abbrev Every : (Relation → Type 0) → List Relation → Type 0
Every P rs = (k : ℕ) → k < length rs → P (get_or rs k idle)

every_joined : (P Q R : Relation → Type 0) (rs ss : List Relation) → ((r : Relation) → P r → R r) → ((r : Relation) → Q r → R r) →
    Every P rs → Every Q ss → Every R (rs ++ ss)
every_joined P Q R rs ss f g a b k l = elim (cases_lt k (length rs)) [
  | inl h ↦ subst R (sym (get_or_append_left rs ss idle k h)) (f (get_or rs k idle) (a k h))
  | inr h ↦ subst R (sym (get_or-append_right rs ss (length rs) k idle refl h))
      (g (get_or ss (k - length rs) idle) (b (k - length rs) (omega (arith, length-append rs ss))))
]

pub joined_deflation : {r r' : ℕ} (rs ss : List Relation) → Every (Deflates r) rs → Every (Deflates r') ss → Every (Deflates (max r r')) (rs ++ ss)
joined_deflation {r} {r'} rs ss = every_joined (Deflates r) (Deflates r') (Deflates (max r r')) rs ss
    (deflates_wider (omega arith)) (deflates_wider (omega arith))

pub joined_soundness : {T T' r r' : ℕ} (rs ss : List Relation) → Every (Sound T r) rs → Every (Sound T' r') ss →
    Every (Sound (common T T') (max r r')) (rs ++ ss)
joined_soundness {T} {T'} {r} {r'} rs ss = every_joined (Sound T r) (Sound T' r') (Sound (common T T') (max r r')) rs ss
    (sound_wider (common_left T T') (omega arith)) (sound_wider (common_right T T') (omega arith))

pub joined_exactness : {T T' r r' : ℕ} (rs ss : List Relation) → Every (Exact T r) rs → Every (Exact T' r') ss →
    Every (Exact (common T T') (max r r')) (rs ++ ss)
joined_exactness {T} {T'} {r} {r'} rs ss = every_joined (Exact T r) (Exact T' r') (Exact (common T T') (max r r')) rs ss
    (exact_wider (common_left T T') (omega arith)) (exact_wider (common_right T T') (omega arith))

pub joined_monotony : {r r' : ℕ} (rs ss : List Relation) → Every (Monotone r) rs → Every (Monotone r') ss → Every (Monotone (max r r')) (rs ++ ss)
joined_monotony {r} {r'} rs ss = every_joined (Monotone r) (Monotone r') (Monotone (max r r')) rs ss
    (monotone_wider (omega arith)) (monotone_wider (omega arith))

-- silence at a longer reach rests on the lengths that deflation keeps
pub joined_silence : {r r' : ℕ} (rs ss : List Relation) → Every (Deflates r) rs → Every (Deflates r') ss →
    Every (Silent r) rs → Every (Silent r') ss → Every (Silent (max r r')) (rs ++ ss)
joined_silence {r} {r'} rs ss a b c d = every_joined (λ R. Deflates r R × Silent r R) (λ R. Deflates r' R × Silent r' R) (Silent (max r r')) rs ss
    (λ R h. silent_wider r (max r r') (omega arith) R h.0 h.1) (λ R h. silent_wider r' (max r r') (omega arith) R h.0 h.1)
    (λ k l. (a k l, c k l)) (λ k l. (b k l, d k l))

pub joined_confinement : {r r' : ℕ} (rs ss : List Relation) → Every (Confined r) rs → Every (Confined r') ss →
    Every (Confined (max r r')) (rs ++ ss)
joined_confinement {r} {r'} rs ss = every_joined (Confined r) (Confined r') (Confined (max r r')) rs ss
    (confined_wider (omega arith)) (confined_wider (omega arith))

pub waived_size : (marks : List Bool) (k : ℕ) (rs : List Relation) → length (waived_from marks k rs) ≡ length rs
waived_size marks k [] = refl
waived_size marks k (r ∷ rs) = ap suc (waived_size marks (suc k) rs)

waived_at : (marks : List Bool) (k : ℕ) (rs : List Relation) (i : ℕ) → get_or (waived_from marks k rs) i idle ≡ cond (get_or marks (k + i) false) idle (get_or rs i idle)
waived_at marks k [] i = elim (get_or marks (k + i) false) as (λ b. idle ≡ cond b idle idle) [ true ↦ refl | false ↦ refl ]
waived_at marks k (r ∷ rs) zero = let e : k ≡ k + 0 = omega arith in ap (λ j. cond (get_or marks j false) idle r) e
waived_at marks k (r ∷ rs) (suc i) = let e : suc k + i ≡ k + suc i = omega arith in waived_at marks (suc k) rs i ∙ ap (λ j. cond (get_or marks j false) idle (get_or rs i idle)) e

pub relation_waived : (marks : List Bool) (m : Meaning) (k : ℕ) → relation (waived marks m) k ≡ cond (get_or marks k false) idle (relation m k)
relation_waived marks m k = let e : 0 + k ≡ k = omega arith in waived_at marks 0 m.relations k ∙ ap (λ j. cond (get_or marks j false) idle (relation m k)) e

every_waived : (P : Relation → Type 0) (marks : List Bool) (rs : List Relation) → P idle → Every P rs → Every P (waived_from marks 0 rs)
every_waived P marks rs i a k l =
    let e : 0 + k ≡ k = omega arith in
    subst P (sym (waived_at marks 0 rs k ∙ ap (λ j. cond (get_or marks j false) idle (get_or rs k idle)) e))
    (cond_both (get_or marks k false) idle (get_or rs k idle) P (λ _. i) (λ _. a k (omega (arith, waived_size marks 0 rs))))

-- the laws of the idle relation
idle_exact : (T r : ℕ) → Exact T r idle
idle_exact T r = record {
  only = λ x h t l. refl;
  met = λ x h t k i l. let q : i < length x = omega (arith, length-map x (λ t. 2 ^ t)) in
      subst (λ s. 0 < s) (sym (get_or-map (λ t. 2 ^ t) x i 0 0 q)) (pow_pos (at x i));
}

pub waived_deflation : (marks : List Bool) {r : ℕ} (rs : List Relation) → Every (Deflates r) rs → Every (Deflates r) (waived_from marks 0 rs)
waived_deflation marks {r} rs = every_waived (Deflates r) marks rs (λ f h w. record { len = refl; sub = λ i m k. k })

pub waived_soundness : (marks : List Bool) {T r : ℕ} (rs : List Relation) → Every (Sound T r) rs → Every (Sound T r) (waived_from marks 0 rs)
waived_soundness marks {T} {r} rs = every_waived (Sound T r) marks rs (λ f x h w t l k. l)

pub waived_exactness : (marks : List Bool) {T r : ℕ} (rs : List Relation) → Every (Exact T r) rs → Every (Exact T r) (waived_from marks 0 rs)
waived_exactness marks {T} {r} rs = every_waived (Exact T r) marks rs (idle_exact T r)

pub waived_monotony : (marks : List Bool) {r : ℕ} (rs : List Relation) → Every (Monotone r) rs → Every (Monotone r) (waived_from marks 0 rs)
waived_monotony marks {r} rs = every_waived (Monotone r) marks rs (λ f g h w v i. i)

pub waived_silence : (marks : List Bool) {r : ℕ} (rs : List Relation) → Every (Silent r) rs → Every (Silent r) (waived_from marks 0 rs)
waived_silence marks {r} rs = every_waived (Silent r) marks rs (record { kept = λ f h w. refl; unread = λ f g h k w v e. e })

pub waived_confinement : (marks : List Bool) {r : ℕ} (rs : List Relation) → Every (Confined r) rs → Every (Confined r) (waived_from marks 0 rs)
waived_confinement marks {r} rs = every_waived (Confined r) marks rs (λ x y h k e. refl)

pub joins_are_lawful : JoinsAreLawful
joins_are_lawful = record {
  of_joined = λ m n a b. record {
    deflation = joined_deflation m.relations n.relations a.deflation b.deflation;
    soundness = joined_soundness m.relations n.relations a.soundness b.soundness;
    exactness = joined_exactness m.relations n.relations a.exactness b.exactness;
    monotony = joined_monotony m.relations n.relations a.monotony b.monotony;
    silence = joined_silence m.relations n.relations a.deflation b.deflation a.silence b.silence;
    confinement = joined_confinement m.relations n.relations a.confinement b.confinement;
  };
  of_waived = λ marks m a. record {
    deflation = waived_deflation marks m.relations a.deflation;
    soundness = waived_soundness marks m.relations a.soundness;
    exactness = waived_exactness marks m.relations a.exactness;
    monotony = waived_monotony marks m.relations a.monotony;
    silence = waived_silence marks m.relations a.silence;
    confinement = waived_confinement marks m.relations a.confinement;
  };
}
