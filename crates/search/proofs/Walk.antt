-- The walk of a search: what is done, and how a step keeps it.
use Rattle.std.proofs.Common.{◌≡◌, ℕ, suc, ◌-◌, ◌<◌, ◌≤◌, ◌⊎◌, List, length, take, sym, refl, ap, ◌∙◌, subst, inl, inr, arith}
use Rattle.std.proofs.lemmas.Bool.{cases_lt}
use Rattle.std.proofs.lemmas.List.{ext_get_or, length-take, get_or-take, take-take}
use Rattle.minutes.specs.Minutes.{In, at, Before}
use Rattle.search.specs.Search.{Problem, events, WellPosed, Way, rest_of, Alive, front, Tried, DeadEnd, Solves, Listed, Begins}
use Rattle.search.proofs.Orders.{before_irreflexive, before_trans, lower, upper, inner, outer, compared, begins_same, before_begins, begins_before, begins_not_before, begins_not_after, take_begins}
use Rattle.search.proofs.Living.{alive_front, alive_left, left_allowed, solution_lies, solution_alive}
use Rattle.search.proofs.Raising.{Edge, Raised, take_same, raised_before, raised_next, raised_floor}
use Rattle.search.proofs.Listing.{listed_same, listed_more, more}

-- each minute of p was left by what stands before it
pub record Path (q : Problem) (o : Way q) (p : List ℕ) : Type 0 where
  pub some : 0 < length p
  pub most : length p ≤ events q
  pub alive : (i : ℕ) → i < length p → Alive q o (take i p)
  pub left : (i : ℕ) → i < length p → In (at p i) (at (rest_of q o (take i p)) i)

-- the floor has come to y, whose first d minutes are tried; n dead ends stand before it, and no solution
pub record Walk (q : Problem) (o : Way q) (floor y : List ℕ) (d n : ℕ) (nth : ℕ → List ℕ) : Type 0 where
  pub edge : Edge q.meaning.period (events q) y
  pub depth : d ≤ events q
  pub from : Before y floor → ⊥
  pub alive : (i : ℕ) → i < d → Alive q o (take i y)
  pub left : (i : ℕ) → i < d → In (at y i) (at (rest_of q o (take i y)) i)
  pub past : Listed (λ p. DeadEnd q o floor p × Before p y) n nth
  pub clear : (x : List ℕ) → Solves q floor x → Before x y → ⊥

pub begins_take : (p r : List ℕ) → Begins p r → p ≡ take (length p) r
begins_take p r b = ext_get_or 0 p (take (length p) r) (omega (arith, b.shorter, length-take (length p) r)) (λ j h. b.same j h ∙ sym (get_or-take (length p) r j 0 h))

module _ (q : Problem) (posed : WellPosed q) (o : Way q) (floor : List ℕ) where
  pub path_low : (p : List ℕ) → Path q o p → (j : ℕ) → j < length p → at p j < q.meaning.period
  path_low p t j h =
      let e : j ≡ length (take j p) = omega (arith, length-take j p) in
      let u = left_allowed q posed o (take j p) (at p j) (subst (λ z. In (at p j) (at (rest_of q o (take j p)) z)) e (t.left j h)) in
      posed.minutes (length (take j p)) (at p j) u

  pub tried_path : (p : List ℕ) → Tried q o floor p → Path q o p
  tried_path p t = record { some = t.some; most = t.most; alive = λ i h. (go i h (cases_lt i (length p - 1))).0; left = λ i h. (go i h (cases_lt i (length p - 1))).1 }
    where
      lf : length (front p) ≡ length p - 1
      lf = omega (arith, length-take (length p - 1) p)

      go : (i : ℕ) → i < length p → (i < length p - 1) ⊎ (length p - 1 ≤ i) → Alive q o (take i p) × In (at p i) (at (rest_of q o (take i p)) i)
      go i h (inl u) =
          let e : take i (front p) ≡ take i p = take-take i (length p - 1) p (omega arith) in
          let g : at (front p) i ≡ at p i = get_or-take (length p - 1) p i 0 u in
          let l = alive_left q posed o (front p) i (omega (arith, lf)) (omega (arith, lf, t.most)) t.alive in (
            subst (λ z. Alive q o z) e (alive_front q posed o (front p) (take i (front p)) (take_begins i (front p)) t.alive),
            subst (λ z. In (at p i) (at (rest_of q o z) i)) e (subst (λ z. In z (at (rest_of q o (take i (front p))) i)) g l),
          )
      go i h (inr u) =
          let e : length p - 1 ≡ i = omega arith in
          (subst (λ z. Alive q o (take z p)) e t.alive, subst (λ z. In (at p z) (at (rest_of q o (take z p)) z)) e t.left)

  pub solution_path : (x : List ℕ) → Solves q floor x → Path q o x
  solution_path x s = record {
    some = omega (arith, posed.some, s.timetable.len);
    most = omega (arith, s.timetable.len);
    alive = λ i h. solution_alive q posed o floor x (take i x) s (take_begins i x);
    left = λ i h. (solution_lies q posed o floor x (take i x) s (take_begins i x)).each i h;
  }

  -- no dead end begins another
  pub antichain : (p r : List ℕ) → DeadEnd q o floor p → DeadEnd q o floor r → Begins p r → p ≡ r
  antichain p r a b g = elim (cases_lt (length p) (length r)) [
    | inl l ↦ absurd (a.dead (subst (λ z. Alive q o z) (sym (begins_take p r g)) ((tried_path r b.tried).alive (length p) l)))
    | inr l ↦ begins_same p r g l
  ]

  -- the first d minutes of a list whose places are left are tried
  pub tried_take : (y : List ℕ) (d : ℕ) → length y ≡ events q → 0 < d → d ≤ events q → (Before y floor → ⊥)
      → ((i : ℕ) → i < d → Alive q o (take i y)) → ((i : ℕ) → i < d → In (at y i) (at (rest_of q o (take i y)) i)) → Tried q o floor (take d y)
  tried_take y d e pos h f a l =
      let n : length (take d y) ≡ d = omega (arith, length-take d y) in
      let w : front (take d y) ≡ take (d - 1) y = ap (λ z. take (z - 1) (take d y)) n ∙ take-take (d - 1) d y (omega arith) in
      let g : at (take d y) (length (take d y) - 1) ≡ at y (d - 1) = ap (λ z. at (take d y) (z - 1)) n ∙ get_or-take d y (d - 1) 0 (omega arith) in
      record {
        some = omega arith;
        most = omega arith;
        alive = subst (λ z. Alive q o z) (sym w) (a (d - 1) (omega arith));
        left = subst (λ z. In (at (take d y) (length (take d y) - 1)) (at (rest_of q o z) (length (take d y) - 1))) (sym w) (subst (λ z. In z (at (rest_of q o (take (d - 1) y)) (length (take d y) - 1))) (sym g) (subst (λ z. In (at y (d - 1)) (at (rest_of q o (take (d - 1) y)) (z - 1))) (sym n) (l (d - 1) (omega arith))));
        from_floor = λ b. f (begins_before (take d y) y floor b (take_begins d y));
      }

  module _ (y : List ℕ) (d n : ℕ) (nth : ℕ → List ℕ) (w : Walk q o floor y d n nth) where
    long : length (take d y) ≡ d
    long = omega (arith, length-take d y, w.edge.len, w.depth)

    -- what stands before a raised floor
    between : (i : ℕ) (y' : List ℕ) → Raised q.meaning.period (events q) y d i y' → (p : List ℕ) → Path q o p → Before p y' → Before p y ⊎ (Begins p (take d y) ⊎ Begins (take d y) p)
    between i y' r p t b = elim (compared p (take d y)) [
      | lower c ↦ inl (before_begins p (take d y) y c (take_begins d y))
      | upper c ↦ absurd (raised_next q.meaning.period (events q) y d i y' w.edge w.depth r p (path_low p t) b c)
      | inner c ↦ inr (inl c)
      | outer c ↦ inr (inr c)
    ]

    -- the same floor, other places: what a raise keeps
    kept : (i : ℕ) (y' : List ℕ) → Raised q.meaning.period (events q) y d i y' → (j : ℕ) → j ≤ i → take j y ≡ take j y'
    kept i y' r j h = take_same j y y' (w.edge.len ∙ sym r.len) (λ k l. sym (r.same k (omega arith)))

    pub y_low : (i : ℕ) → i < d → at y i < q.meaning.period
    y_low i h = let e : i ≡ length (take i y) = omega (arith, length-take i y, w.edge.len, w.depth) in
        posed.minutes (length (take i y)) (at y i) (left_allowed q posed o (take i y) (at y i) (subst (λ z. In (at y i) (at (rest_of q o (take i y)) z)) e (w.left i h)))

    raise : (i m : ℕ) (y' : List ℕ) (nth' : ℕ → List ℕ) → Raised q.meaning.period (events q) y d i y'
        → Listed (λ p. DeadEnd q o floor p × Before p y') m nth' → ((x : List ℕ) → Solves q floor x → Before x y' → Before x y) → Walk q o floor y' i m nth'
    raise i m y' nth' r num clr = record {
      edge = raised_floor q.meaning.period (events q) y d i y' w.edge w.depth r (y_low i r.inside);
      depth = omega (arith, r.inside, w.depth);
      from = λ b. w.from (before_trans y y' floor (raised_before q.meaning.period (events q) y d i y' w.edge w.depth r) b);
      alive = λ j h. subst (λ z. Alive q o z) (kept i y' r j (omega arith)) (w.alive j (omega (arith, r.inside)));
      left = λ j h. subst (λ z. In (at y' j) (at (rest_of q o z) j)) (kept i y' r j (omega arith)) (subst (λ z. In z (at (rest_of q o (take j y)) j)) (sym (r.same j h)) (w.left j (omega (arith, r.inside))));
      past = num;
      clear = λ x s b. w.clear x s (clr x s b);
    }

    rises : (i : ℕ) (y' : List ℕ) → Raised q.meaning.period (events q) y d i y' → (p : List ℕ) → Before p y → Before p y'
    rises i y' r p b = before_trans p y y' b (raised_before q.meaning.period (events q) y d i y' w.edge w.depth r)

    -- the first d minutes are a dead end
    pub dead_here : 0 < d → (Alive q o (take d y) → ⊥) → DeadEnd q o floor (take d y)
    dead_here pos no_life = record { tried = tried_take y d w.edge.len pos w.depth w.from w.alive w.left; dead = no_life }

    pub dead_step : (i : ℕ) (y' : List ℕ) → 0 < d → (Alive q o (take d y) → ⊥) → Raised q.meaning.period (events q) y d i y' → Walk q o floor y' i (suc n) (more nth n (take d y))
    dead_step i y' pos no_life r = raise i (suc n) y' (more nth n (take d y)) r
        (listed_more (λ p. DeadEnd q o floor p × Before p y) (λ p. DeadEnd q o floor p × Before p y') n nth (take d y) w.past
        (λ p k. (k.0, rises i y' r p k.1))
        (e, at_new)
        split
        before)
        (λ x s b. elim (between i y' r x (solution_path x s) b) [
          | inl u ↦ u
          | inr (inl u) ↦ absurd (no_life (subst (λ z. Alive q o z) (begins_same x (take d y) u (omega (arith, long, w.depth, s.timetable.len))) (solution_alive q posed o floor x x s (record { shorter = omega arith; same = λ j h. refl }))))
          | inr (inr u) ↦ absurd (no_life (solution_alive q posed o floor x (take d y) s u))
        ])
      where
        e : DeadEnd q o floor (take d y)
        e = dead_here pos no_life

        at_new : Before (take d y) y'
        at_new = record { place = i; in_x = omega (arith, long, r.inside); in_y = omega (arith, r.len, r.inside, w.depth); same = λ j h. get_or-take d y j 0 (omega (arith, r.inside)) ∙ sym (r.same j h); less = omega (arith, get_or-take d y i 0 r.inside, r.up) }

        split : (p : List ℕ) → DeadEnd q o floor p × Before p y' → (DeadEnd q o floor p × Before p y) ⊎ (p ≡ take d y)
        split p k = elim (between i y' r p (tried_path p k.0.tried) k.1) [
          | inl u ↦ inl (k.0, u)
          | inr (inl u) ↦ inr (antichain p (take d y) k.0 e u)
          | inr (inr u) ↦ inr (sym (antichain (take d y) p e k.0 u))
        ]

        not_yet : Before (take d y) y → ⊥
        not_yet b = begins_not_before (take d y) y (take_begins d y) b

        before : (p : List ℕ) → DeadEnd q o floor p × Before p y → Before p (take d y)
        before p k = elim (compared p (take d y)) [
          | lower c ↦ c
          | upper c ↦ absurd (not_yet (before_trans (take d y) p y c k.1))
          | inner c ↦ absurd (not_yet (subst (λ z. Before z y) (antichain p (take d y) k.0 e c) k.1))
          | outer c ↦ absurd (not_yet (subst (λ z. Before z y) (sym (antichain (take d y) p e k.0 c)) k.1))
        ]

    -- a path through the first d minutes that is not before the floor goes on with a minute from the floor's on
    onward : (p : List ℕ) → Path q o p → Begins (take d y) p → d < length p → (Before p y → ⊥) → In (at p d) (at (rest_of q o (take d y)) d) × (at y d ≤ at p d)
    onward p t g l nb =
        let s : (j : ℕ) → j < d → at p j ≡ at y j = λ j h. sym (g.same j (omega (arith, long))) ∙ get_or-take d y j 0 h in
        let e : take d p ≡ take d y = sym (subst (λ z. take d y ≡ take z p) long (begins_take (take d y) p g)) in (
          subst (λ z. In (at p d) (at (rest_of q o z) d)) e (t.left d l),
          elim (cases_lt (at p d) (at y d)) [
            | inl u ↦ absurd (nb (record { place = d; in_x = l; in_y = omega (arith, w.edge.len, t.most); same = s; less = u }))
            | inr u ↦ u
          ],
        )

    -- no minute is left at place d
    abbrev pub Barren : Type 0
    Barren = (t : ℕ) → at y d ≤ t → In t (at (rest_of q o (take d y)) d) → ⊥

    pub up_step : (i : ℕ) (y' : List ℕ) → d < events q → Alive q o (take d y) → Barren → Raised q.meaning.period (events q) y d i y' → Walk q o floor y' i n nth
    up_step i y' inner_d life bare r = raise i n y' nth r
        (listed_same (λ p. DeadEnd q o floor p × Before p y) (λ p. DeadEnd q o floor p × Before p y') n nth
        (λ p k. (k.0, rises i y' r p k.1))
        (λ p k. (
          k.0,
          elim (between i y' r p (tried_path p k.0.tried) k.1) [
            | inl u ↦ u
            | inr (inl u) ↦ absurd (k.0.dead (alive_front q posed o (take d y) p u life))
            | inr (inr u) ↦ elim (cases_lt d (length p)) [
              | inl l ↦ elim (compared p y) [
                | lower c ↦ c
                | upper c ↦ absurd (stuck p (tried_path p k.0.tried) u l (λ b. before_irreflexive p (before_trans p y p b c)))
                | inner c ↦ absurd (stuck p (tried_path p k.0.tried) u l (λ b. begins_not_before p y c b))
                | outer c ↦ absurd (stuck p (tried_path p k.0.tried) u l (λ b. begins_not_after y p c b))
              ]
              | inr l ↦ absurd (k.0.dead (subst (λ z. Alive q o z) (begins_same (take d y) p u (omega (arith, long))) life))
            ]
          ],
        ))
        w.past)
        (λ x s b. elim (between i y' r x (solution_path x s) b) [
          | inl u ↦ u
          | inr (inl u) ↦ absurd (omega (arith, u.shorter, long, s.timetable.len))
          | inr (inr u) ↦ elim (compared x y) [
            | lower c ↦ c
            | upper c ↦ absurd (stuck x (solution_path x s) u (omega (arith, s.timetable.len)) (λ b'. before_irreflexive x (before_trans x y x b' c)))
            | inner c ↦ absurd (stuck x (solution_path x s) u (omega (arith, s.timetable.len)) (λ b'. begins_not_before x y c b'))
            | outer c ↦ absurd (stuck x (solution_path x s) u (omega (arith, s.timetable.len)) (λ b'. begins_not_after y x c b'))
          ]
        ])
      where
        stuck : (p : List ℕ) → Path q o p → Begins (take d y) p → d < length p → (Before p y → ⊥) → ⊥
        stuck p t g l nb = let v = onward p t g l nb in bare (at p d) v.1 v.0
