-- The walk's start, its way down and its ends.
use Rattle.std.proofs.Common.{◌≡◌, ℕ, suc, ◌<◌, ◌≤◌, ◌⊎◌, List, [], length, take, sym, ◌∙◌, subst, inl, inr, arith}
use Rattle.std.proofs.lemmas.Bool.{cases_order, cases_lt}
use Rattle.std.proofs.lemmas.List.{ext_get_or, length-take, get_or-take, take_all}
use Rattle.minutes.specs.Minutes.{In, at, Before}
use Rattle.search.specs.Search.{Problem, events, WellPosed, FloorOf, Way, rest_of, Alive, DeadEnd, Solves, Sought, Unsolved, Counted, Listed}
use Rattle.search.proofs.Orders.{before_trans, before_begins, begins_not_before, take_begins, two_timetables}
use Rattle.search.proofs.Living.{left_allowed, alive_solves}
use Rattle.search.proofs.Raising.{take_same}
use Rattle.search.proofs.Listing.{listed_same}
pub use Rattle.search.proofs.Edges.{Lowered}
use Rattle.search.proofs.Walk.{Path, Walk, tried_path, solution_path}

-- t is the lowest minute left at place d, from the floor's on
pub record Lowest (q : Problem) (o : Way q) (y : List ℕ) (d t : ℕ) : Type 0 where
  pub left : In t (at (rest_of q o (take d y)) d)
  pub above : at y d ≤ t
  pub least : (s : ℕ) → at y d ≤ s → s < t → In s (at (rest_of q o (take d y)) d) → ⊥

module _ (q : Problem) (posed : WellPosed q) (o : Way q) (floor : List ℕ) where
  pub start : FloorOf q floor → Walk q o floor (take (events q) floor) 0 0 (λ _. [])
  start f = record {
    edge = record { len = omega (arith, length-take (events q) floor, f.long); first = omega (arith, low 0 posed.some); later = λ i p h. low i h };
    depth = omega arith;
    from = λ b. begins_not_before (take (events q) floor) floor (take_begins (events q) floor) b;
    alive = λ i h. absurd (omega arith);
    left = λ i h. absurd (omega arith);
    past = record { rising = λ i j l h. absurd (omega arith); holds = λ i h. absurd (omega arith); all = λ p k. absurd (k.0.tried.from_floor (before_begins p _ floor k.1 (take_begins (events q) floor))) };
    clear = λ x s b. s.from_floor (before_begins x _ floor b (take_begins (events q) floor));
  }
    where
      low : (i : ℕ) → i < events q → at (take (events q) floor) i < q.meaning.period
      low i h = omega (arith, get_or-take (events q) floor i 0 h, f.minute i h)

  module _ (y : List ℕ) (d n : ℕ) (nth : ℕ → List ℕ) (w : Walk q o floor y d n nth) where
    pub down_step : (t : ℕ) (y' : List ℕ) → d < events q → Alive q o (take d y) → Lowest q o y d t → Lowered (events q) y d t y' → Walk q o floor y' (suc d) n nth
    down_step t y' deep life low r = record {
      edge = record { len = r.len; first = omega (arith, (minute 0 posed.some (cases_order 0 d)).0); later = λ i p h. (minute i h (cases_order i d)).1 p };
      depth = deep;
      from = λ b. elim r.behind [ inl e ↦ w.from (subst (λ z. Before z floor) e b) | inr k ↦ w.from (before_trans y y' floor (above k) b) ];
      alive = λ j h. subst (λ z. Alive q o z) (kept j (omega arith)) (elim (cases_lt j d) [ inl u ↦ w.alive j u | inr u ↦ subst (λ z. Alive q o (take z y)) (let e : d ≡ j = omega arith in e) life ]);
      left = λ j h. subst (λ z. In (at y' j) (at (rest_of q o z) j)) (kept j (omega arith)) (elim (cases_lt j d) [
        | inl u ↦ subst (λ z. In z (at (rest_of q o (take j y)) j)) (sym (r.same j u)) (w.left j u)
        | inr u ↦ let e : d ≡ j = omega arith in subst (λ k. In (at y' k) (at (rest_of q o (take k y)) k)) e (subst (λ z. In z (at (rest_of q o (take d y)) d)) (sym r.here) low.left)
      ]);
      past = listed_same (λ p. DeadEnd q o floor p × Before p y) (λ p. DeadEnd q o floor p × Before p y') n nth (λ p k. (k.0, rises p k.1)) (λ p k. (k.0, falls p (tried_path q posed o floor p k.0.tried) k.1)) w.past;
      clear = λ x s b. w.clear x s (falls x (solution_path q posed o floor x s) b);
    }
      where
        long : length (take d y) ≡ d
        long = omega (arith, length-take d y, w.edge.len, w.depth)

        kept : (j : ℕ) → j ≤ d → take j y ≡ take j y'
        kept j h = take_same j y y' (w.edge.len ∙ sym r.len) (λ k l. sym (r.same k (omega arith)))

        t_low : t < q.meaning.period
        t_low = posed.minutes (length (take d y)) t (left_allowed q posed o (take d y) t (subst (λ z. In t (at (rest_of q o (take d y)) z)) (sym long) low.left))

        minute : (j : ℕ) → j < events q → (j ≡ d) ⊎ ((j < d) ⊎ (d < j)) → (at y' j ≤ q.meaning.period) × (0 < j → at y' j < q.meaning.period)
        minute j h (inl e) = let u : at y' j < q.meaning.period = subst (λ z. at y' z < q.meaning.period) (sym e) (omega (arith, r.here, t_low)) in (omega arith, λ p. u)
        minute j h (inr (inl l)) = (elim (cases_order j 0) [ inl e ↦ subst (λ z. at y' z ≤ q.meaning.period) (sym e) (omega (arith, r.same 0 (omega arith), w.edge.first)) | inr (inl e) ↦ absurd (omega arith) | inr (inr e) ↦ omega (arith, r.same j l, w.edge.later j e h) ], λ p. omega (arith, r.same j l, w.edge.later j p h))
        minute j h (inr (inr l)) = let u : at y' j < q.meaning.period = elim r.behind [ inl e ↦ subst (λ z. at z j < q.meaning.period) (sym e) (w.edge.later j (omega arith) h) | inr k ↦ omega (arith, k.1 j l, t_low) ] in (omega arith, λ p. u)

        above : (at y d < t) × ((j : ℕ) → d < j → at y' j ≡ 0) → Before y y'
        above k = record { place = d; in_x = omega (arith, w.edge.len); in_y = omega (arith, r.len); same = λ j h. sym (r.same j h); less = omega (arith, k.0, r.here) }

        rises : (p : List ℕ) → Before p y → Before p y'
        rises p b = elim r.behind [ inl e ↦ subst (λ z. Before p z) (sym e) b | inr k ↦ before_trans p y y' b (above k) ]

        falls : (p : List ℕ) → Path q o p → Before p y' → Before p y
        falls p g b = elim r.behind [
          | inl e ↦ subst (λ z. Before p z) e b
          | inr k ↦ elim (cases_order b.place d) [
            | inl u ↦ at_d u
            | inr (inl u) ↦ record { place = b.place; in_x = b.in_x; in_y = omega (arith, b.in_y, r.len, w.edge.len); same = λ j h. b.same j h ∙ r.same j (omega arith); less = omega (arith, b.less, r.same b.place u) }
            | inr (inr u) ↦ absurd (omega (arith, b.less, k.1 b.place u))
          ]
        ]
          where
            at_d : b.place ≡ d → Before p y
            at_d u =
                let ss : (j : ℕ) → j < d → at p j ≡ at y j = λ j h. b.same j (omega arith) ∙ r.same j h in
                let dp : d < length p = omega (arith, b.in_x) in
                let lt : at p d < t = omega (arith, subst (λ z. at p z < at y' z) u b.less, r.here) in
                let e : take d p ≡ take d y = ext_get_or 0 (take d p) (take d y) (omega (arith, long, length-take d p)) (λ j h. let h' : j < d = omega (arith, length-take d p) in get_or-take d p j 0 h' ∙ ss j h' ∙ sym (get_or-take d y j 0 h')) in
                elim (cases_lt (at p d) (at y d)) [
                  | inl v ↦ record { place = d; in_x = dp; in_y = omega (arith, w.edge.len); same = ss; less = v }
                  | inr v ↦ absurd (low.least (at p d) v lt (subst (λ z. In (at p d) (at (rest_of q o z) d)) e (g.left d dp)))
                ]

    -- all events are placed
    pub found_end : d ≡ events q → Alive q o (take d y) → Sought q floor y × Listed (Counted q o floor) n nth
    found_end full life = (
      sought,
      listed_same (λ p. DeadEnd q o floor p × Before p y) (Counted q o floor) n nth
          (λ p k. record { dead_end = k.0; before = λ x s. subst (λ z. Before p z) (sym (one x s)) k.1 })
          (λ p k. (k.dead_end, k.before y sought)) w.past,
    )
      where
        life' : Alive q o y
        life' = subst (λ z. Alive q o z) (take_all d y (omega (arith, w.edge.len))) life

        sol : Solves q floor y
        sol = alive_solves q posed o floor y w.edge.len life' w.from

        sought : Sought q floor y
        sought = record { solves = sol; earliest = λ z s. elim (two_timetables _ _ z y s.timetable sol.timetable) [ inl e ↦ inl e | inr (inl b) ↦ absurd (w.clear z s b) | inr (inr b) ↦ inr b ] }

        one : (x : List ℕ) → Sought q floor x → x ≡ y
        one x s = elim (s.earliest y sol) [ inl e ↦ sym e | inr b ↦ absurd (w.clear x s.solves b) ]

    -- nothing is left at the first place, or ever
    pub none_end : d ≡ 0 → ((Alive q o [] → ⊥) ⊎ ((t : ℕ) → at y 0 ≤ t → In t (at (rest_of q o []) 0) → ⊥)) → Unsolved q floor × Listed (Counted q o floor) n nth
    none_end z c = (
      unsolved,
      listed_same (λ p. DeadEnd q o floor p × Before p y) (Counted q o floor) n nth
          (λ p k. record { dead_end = k.0; before = λ x s. absurd (unsolved x s.solves) })
          (λ p k. (k.dead_end, all p (tried_path q posed o floor p k.dead_end.tried))) w.past,
    )
      where
        all : (p : List ℕ) → Path q o p → Before p y
        all p g = elim c [
          | inl u ↦ absurd (u (g.alive 0 g.some))
          | inr u ↦ elim (cases_lt (at p 0) (at y 0)) [
            | inl v ↦ record { place = 0; in_x = g.some; in_y = omega (arith, w.edge.len, posed.some); same = λ j h. absurd (omega arith); less = v }
            | inr v ↦ absurd (u (at p 0) v (g.left 0 g.some))
          ]
        ]

        unsolved : Unsolved q floor
        unsolved x s = w.clear x s (all x (solution_path q posed o floor x s))
