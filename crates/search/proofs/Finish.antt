-- A walk comes to an end: every search has a number.
use Rattle.std.proofs.Common.{◌≡◌, ℕ, zero, suc, ◌+◌, ◌-◌, ◌<◌, ◌≤◌, ◌⊎◌, List, [], ◌∷◌, ◌++◌, length, take, replicate, sym, refl, ap, ◌∙◌, subst, inl, inr, arith}
use Rattle.std.proofs.lemmas.Bool.{cases_order, cases_lt}
use Rattle.std.proofs.lemmas.List.{length-take, get_or-take, length-append, length-replicate, get_or_append_left, get_or-append_right, get_or-replicate, get_or_past}
use Rattle.minutes.specs.Minutes.{In, at, Before}
use Rattle.search.specs.Search.{Problem, events, WellPosed, FloorOf, Way, rest_of, Alive, Sought, Unsolved, Counted, Listed}
use Rattle.minutes.proofs.Sets.{bit_cases}
use Rattle.search.proofs.Living.{left_allowed}
use Rattle.search.proofs.Raising.{Raised, raised_before, raised_floor}
use Rattle.search.proofs.Listing.{more, more_low}
use Rattle.search.proofs.Walk.{Walk, dead_step, up_step}
use Rattle.search.proofs.Ends.{Lowered, Lowest, start, down_step, found_end, none_end}
use Rattle.search.proofs.Worth.{ahead, ahead_up, ahead_down}

-- y with v at place i and zeros behind
abbrev pub cut : List ℕ → ℕ → ℕ → List ℕ
cut y i v = take i y ++ v ∷ replicate (length y - suc i) 0

module _ (y : List ℕ) (i v : ℕ) (h : i < length y) where
  il : length (take i y) ≡ i
  il = omega (arith, length-take i y)

  pub cut_length : length (cut y i v) ≡ length y
  cut_length = omega (arith, length-append (take i y) (v ∷ replicate (length y - suc i) 0), length-replicate {A = ℕ} (length y - suc i) 0, il)

  pub cut_low : (j : ℕ) → j < i → at (cut y i v) j ≡ at y j
  cut_low j l = get_or_append_left (take i y) (v ∷ replicate (length y - suc i) 0) 0 j (omega (arith, il)) ∙ get_or-take i y j 0 l

  pub cut_at : at (cut y i v) i ≡ v
  cut_at = get_or-append_right (take i y) (v ∷ replicate (length y - suc i) 0) i i 0 il (omega arith) ∙ (let e : i - i ≡ 0 = omega arith in ap (λ z. at (v ∷ replicate (length y - suc i) 0) z) e)

  pub cut_high : (j : ℕ) → i < j → at (cut y i v) j ≡ 0
  cut_high j l = get_or-append_right (take i y) (v ∷ replicate (length y - suc i) 0) i j 0 il (omega arith) ∙ (let e : j - i ≡ suc (j - suc i) = omega arith in ap (λ z. at (v ∷ replicate (length y - suc i) 0) z) e ∙ zero_at (j - suc i) (cases_lt (j - suc i) (length y - suc i)))
    where
      zero_at : (k : ℕ) → (k < length y - suc i) ⊎ (length y - suc i ≤ k) → at (replicate (length y - suc i) 0) k ≡ 0
      zero_at k (inl u) = get_or-replicate (length y - suc i) k 0 0 u
      zero_at k (inr u) = get_or_past (replicate (length y - suc i) 0) k 0 (omega (arith, length-replicate {A = ℕ} (length y - suc i) 0))

-- the place to raise
turn : (T : ℕ) (y : List ℕ) (d : ℕ) → 0 < d → (i : ℕ) × (i < d) × ((j : ℕ) → i < j → j < d → T ≤ suc (at y j)) × (0 < i → suc (at y i) < T)
turn T y zero h = absurd (omega arith)
turn T y (suc zero) h = (0, omega arith, (λ j u v. absurd (omega arith)), λ u. absurd (omega arith))
turn T y (suc (suc d)) h = elim (cases_lt (suc (at y (suc d))) T) [
  | inl u ↦ (suc d, omega arith, (λ j v w. absurd (omega arith)), λ v. u)
  | inr u ↦ let r = turn T y (suc d) (omega arith) in (r.0, omega (arith, r.1), (λ j v w. elim (cases_lt j (suc d)) [ inl k ↦ r.2 j v k | inr k ↦ let e : suc d ≡ j = omega arith in subst (λ z. T ≤ suc (at y z)) e u ]), r.3)
]

pub raised : (T E : ℕ) (y : List ℕ) (d : ℕ) → length y ≡ E → 0 < d → d ≤ E → (i : ℕ) × (y' : List ℕ) × Raised T E y d i y'
raised T E y d e h l =
    let r = turn T y d h in
    let i = r.0 in
    let u : i < length y = omega (arith, r.1) in
    (i, cut y i (suc (at y i)), record { inside = r.1; len = cut_length y i (suc (at y i)) u ∙ e; same = cut_low y i (suc (at y i)) u; up = cut_at y i (suc (at y i)) u; zeros = cut_high y i (suc (at y i)) u; last = r.2; below = r.3 })

full_or_not : (f : List ℕ) (n : ℕ) → ((i : ℕ) → i < n → 0 < at f i) ⊎ ((i : ℕ) × (i < n) × (at f i ≡ 0))
full_or_not f zero = inl (λ i h. absurd (omega arith))
full_or_not f (suc n) = elim (full_or_not f n) [
  | inl u ↦ elim (cases_order (at f n) 0) [
    | inl e ↦ inr (n, omega arith, e)
    | inr (inl l) ↦ absurd (omega arith)
    | inr (inr l) ↦ inl (λ i h. elim (cases_lt i n) [ inl v ↦ u i v | inr v ↦ let e : n ≡ i = omega arith in subst (λ z. 0 < at f z) e l ])
  ]
  | inr u ↦ inr (u.0, omega (arith, u.1), u.2)
]

pub alive_or_not : (q : Problem) (o : Way q) (p : List ℕ) → Alive q o p ⊎ (Alive q o p → ⊥)
alive_or_not q o p = elim (full_or_not (rest_of q o p) (length (rest_of q o p))) [ inl u ↦ inl u | inr u ↦ inr (λ l. omega (arith, l u.0 u.1, u.2)) ]

-- the lowest minute of s from lo on
lowest : (s lo n : ℕ) → ((t : ℕ) × In t s × (lo ≤ t) × ((u : ℕ) → lo ≤ u → u < t → In u s → ⊥)) ⊎ ((u : ℕ) → lo ≤ u → u < lo + n → In u s → ⊥)
lowest s lo zero = inr (λ u a b i. omega arith)
lowest s lo (suc n) = elim (lowest s lo n) [
  | inl r ↦ inl r
  | inr r ↦ elim (bit_cases (lo + n) s) [
    | inl i ↦ inl (lo + n, i, omega arith, r)
    | inr z ↦ inr (λ u a b i. elim (cases_lt u (lo + n)) [ inl v ↦ r u a v i | inr v ↦ let e : u ≡ lo + n = omega arith in let i' : In (lo + n) s = subst (λ k. In k s) e i in omega arith ])
  ]
]

-- how a search that has counted n ends
pub record End (q : Problem) (o : Way q) (floor : List ℕ) (n : ℕ) (nth : ℕ → List ℕ) : Type 0 where
  pub number : ℕ
  pub names : ℕ → List ℕ
  pub least : n ≤ number
  pub same : (i : ℕ) → i < n → names i ≡ nth i
  pub listed : Listed (Counted q o floor) number names
  pub outcome : ((x : List ℕ) × Sought q floor x) ⊎ Unsolved q floor

module _ (q : Problem) (posed : WellPosed q) (o : Way q) (floor : List ℕ) (pos : 0 < q.meaning.period) where
  later_end : (n : ℕ) (nth : ℕ → List ℕ) (e : List ℕ) → End q o floor (suc n) (more nth n e) → End q o floor n nth
  later_end n nth e r = record { number = r.number; names = r.names; least = omega (arith, r.least); same = λ i h. r.same i (omega arith) ∙ more_low nth n e i h; listed = r.listed; outcome = r.outcome }

  pub finish : (fuel : ℕ) (y : List ℕ) (d n : ℕ) (nth : ℕ → List ℕ) → Walk q o floor y d n nth → ahead q.meaning.period (events q) y d < fuel → End q o floor n nth
  finish zero y d n nth w l = absurd (omega arith)
  finish (suc fuel) y d n nth w l = elim (cases_order d 0) [
    | inl z ↦ elim (alive_or_not q o []) [
      | inr u ↦ over z (inl u)
      | inl u ↦ elim (lowest (at (rest_of q o []) 0) (at y 0) q.meaning.period) [
        | inr v ↦ over z (inr (λ t a i. v t a (omega (arith, posed.minutes 0 t (left_allowed q posed o [] t i))) i))
        | inl v ↦ down (omega (arith, posed.some)) (subst (λ k. Alive q o (take k y)) (sym z) u) v.0 (subst (λ k. Lowest q o y k v.0) (sym z) (record { left = v.1; above = v.2; least = v.3 })) (λ y' w' lt. finish fuel y' (suc d) n nth w' lt)
      ]
    ]
    | inr (inl z) ↦ absurd (omega arith)
    | inr (inr p) ↦ elim (alive_or_not q o (take d y)) [
      | inr u ↦ up p (λ i y' r lt. later_end n nth (take d y) (finish fuel y' i (suc n) (more nth n (take d y)) (dead_step q posed o floor y d n nth w i y' p u r) lt))
      | inl u ↦ elim (cases_lt d (events q)) [
        | inr e ↦ let f = found_end q posed o floor y d n nth w (omega (arith, w.depth)) u in
            record { number = n; names = nth; least = omega arith; same = λ i h. refl; listed = f.1; outcome = inl (y, f.0) }
        | inl e ↦ elim (lowest (at (rest_of q o (take d y)) d) (at y d) q.meaning.period) [
          | inr v ↦ up p (λ i y' r lt. finish fuel y' i n nth (up_step q posed o floor y d n nth w i y' e u (λ t a k. v t a (omega (arith, left_low t k)) k) r) lt)
          | inl v ↦ down e u v.0 (record { left = v.1; above = v.2; least = v.3 }) (λ y' w' lt. finish fuel y' (suc d) n nth w' lt)
        ]
      ]
    ]
  ]
    where
      left_low : (t : ℕ) → In t (at (rest_of q o (take d y)) d) → t < q.meaning.period
      left_low t h = let e : d ≡ length (take d y) = omega (arith, length-take d y, w.edge.len, w.depth) in
          posed.minutes (length (take d y)) t (left_allowed q posed o (take d y) t (subst (λ z. In t (at (rest_of q o (take d y)) z)) e h))

      over : d ≡ 0 → ((Alive q o [] → ⊥) ⊎ ((t : ℕ) → at y 0 ≤ t → In t (at (rest_of q o []) 0) → ⊥)) → End q o floor n nth
      over z c = let f = none_end q posed o floor y d n nth w z c in
          record { number = n; names = nth; least = omega arith; same = λ i h. refl; listed = f.1; outcome = inr f.0 }

      up : 0 < d → ((i : ℕ) (y' : List ℕ) → Raised q.meaning.period (events q) y d i y' → ahead q.meaning.period (events q) y' i < fuel → End q o floor n nth) → End q o floor n nth
      up p k =
          let r = raised q.meaning.period (events q) y d w.edge.len p w.depth in
          let f = raised_floor q.meaning.period (events q) y d r.0 r.1 w.edge w.depth r.2 (left_low' r.0 r.2.inside) in
          k r.0 r.1 r.2 (omega (arith, ahead_up q.meaning.period (events q) y r.1 r.0 d pos w.edge f (raised_before q.meaning.period (events q) y d r.0 r.1 w.edge w.depth r.2)))
        where
          left_low' : (i : ℕ) → i < d → at y i < q.meaning.period
          left_low' i h = let e : i ≡ length (take i y) = omega (arith, length-take i y, w.edge.len, w.depth) in
              posed.minutes (length (take i y)) (at y i) (left_allowed q posed o (take i y) (at y i) (subst (λ z. In (at y i) (at (rest_of q o (take i y)) z)) e (w.left i h)))

      down : d < events q → Alive q o (take d y) → (t : ℕ) → Lowest q o y d t → ((y' : List ℕ) → Walk q o floor y' (suc d) n nth → ahead q.meaning.period (events q) y' (suc d) < fuel → End q o floor n nth) → End q o floor n nth
      down deep life t low k = elim (cases_order (at y d) t) [
        | inl e ↦ k y (down_step q posed o floor y d n nth w t y deep life low (record { len = w.edge.len; same = λ j h. refl; here = e; behind = inl refl })) (omega (arith, ahead_down q.meaning.period (events q) y d deep))
        | inr (inl a) ↦
            let h : d < length y = omega (arith, w.edge.len) in
            let c : Lowered (events q) y d t (cut y d t) = record { len = cut_length y d t h ∙ w.edge.len; same = cut_low y d t h; here = cut_at y d t h; behind = inr (a, cut_high y d t h) } in
            let w' = down_step q posed o floor y d n nth w t (cut y d t) deep life low c in
            let b : Before y (cut y d t) = record { place = d; in_x = h; in_y = omega (arith, cut_length y d t h); same = λ j g. sym (cut_low y d t h j g); less = omega (arith, cut_at y d t h) } in
            k (cut y d t) w' (omega (arith, ahead_up q.meaning.period (events q) y (cut y d t) (suc d) d pos w.edge w'.edge b))
        | inr (inr a) ↦ absurd (omega (arith, low.above))
      ]

  -- every search has a number
  pub search_ends : FloorOf q floor → End q o floor 0 (λ _. [])
  search_ends f = finish (suc (ahead q.meaning.period (events q) (take (events q) floor) 0)) (take (events q) floor) 0 0 (λ _. []) (start q posed o floor f) (omega arith)
