-- Two finds, the second from the floor that the first wrote, make one.
use Rattle.std.proofs.Common.{◌≡◌, ℕ, zero, suc, ◌+◌, ◌-◌, ◌<◌, ◌≤◌, ◌⊎◌, List, ◌++◌, length, take, replicate, sym, refl, ap, ◌∙◌, subst, inl, inr, arith}
use Rattle.std.proofs.lemmas.Bool.{cases_order, cases_lt}
use Rattle.std.proofs.lemmas.List.{length-take, get_or-take, length-append, length-replicate, get_or_append_left, get_or-append_right, get_or-replicate, take_all}
use Rattle.minutes.specs.Minutes.{at, Before, Timetable}
use Rattle.search.specs.Search.{Problem, events, WellPosed, FloorOf, Way, DeadEnd, Solves, Sought, Unsolved, Counted, Listed, FirstAfter, NextFloor, Says, Finds, Begins}
use Rattle.search.specs.declared.Answer.{Answer}
use Rattle.search.specs.declared.Answer.TheVariants.{Found, Nothing, Spent}
use Rattle.search.specs.Theorems.{added}
use Rattle.search.proofs.Orders.{before_irreflexive, before_trans, lower, upper, inner, outer, compared, begins_same, before_begins, begins_before}
use Rattle.search.proofs.Listing.{agrees, same_number}
use Rattle.search.proofs.Walk.{path_low, tried_path, antichain}
use Rattle.search.proofs.Finish.{search_ends}
use Rattle.search.proofs.Floors.{swap_dead, swap_solves}

-- a prefix continued to a timetable by one minute
pub pad : (T E v : ℕ) (p : List ℕ) → v < T → length p ≤ E → ((j : ℕ) → j < length p → at p j < T) → (z : List ℕ) × Timetable T E z × Begins p z × ((j : ℕ) → length p ≤ j → j < E → at z j ≡ v)
pad T E v p h l low = (
  p ++ replicate (E - length p) v,
  record { len = len; minute = λ j u. elim (cases_lt j (length p)) [ inl a ↦ omega (arith, head j a, low j a) | inr a ↦ omega (arith, tail j a u) ] },
  record { shorter = omega (arith, len); same = λ j u. sym (head j u) },
  tail,
)
  where
    len : length (p ++ replicate (E - length p) v) ≡ E
    len = omega (arith, length-append p (replicate (E - length p) v), length-replicate (E - length p) v)

    head : (j : ℕ) → j < length p → at (p ++ replicate (E - length p) v) j ≡ at p j
    head j u = get_or_append_left p (replicate (E - length p) v) 0 j u

    tail : (j : ℕ) → length p ≤ j → j < E → at (p ++ replicate (E - length p) v) j ≡ v
    tail j u w = get_or-append_right p (replicate (E - length p) v) (length p) j 0 refl u ∙ get_or-replicate (E - length p) (j - length p) v 0 (omega arith)

-- from one floor to the next
module _ (q : Problem) (posed : WellPosed q) (o : Way q) (y₀ : List ℕ) (from : FloorOf q y₀) (N : ℕ) (nth : ℕ → List ℕ) (num : Listed (Counted q o y₀) N nth) where
  move_dead : (y₁ : List ℕ) → (p : List ℕ) → DeadEnd q o y₀ p → (Before p y₁ → ⊥) → DeadEnd q o y₁ p
  move_dead y₁ p d n = record { tried = record { some = d.tried.some; most = d.tried.most; alive = d.tried.alive; left = d.tried.left; from_floor = n }; dead = d.dead }

  module _ (b : ℕ) (less : suc b < N) (y₁ : List ℕ) (next : FirstAfter q.meaning.period (events q) (nth b) y₁) where
    e : List ℕ
    e = nth b

    e_dead : DeadEnd q o y₀ (nth b)
    e_dead = (num.holds b (omega arith)).dead_end

    low : (p : List ℕ) (f : List ℕ) → DeadEnd q o f p → (j : ℕ) → j < length p → at p j < q.meaning.period
    low p f d = path_low q posed o f p (tried_path q posed o f p d.tried)

    -- the last timetable that begins with the dead end
    final : (z : List ℕ) × Timetable q.meaning.period (events q) z × Begins (nth b) z × ((j : ℕ) → length (nth b) ≤ j → j < events q → at z j ≡ q.meaning.period - 1)
    final = pad q.meaning.period (events q) (q.meaning.period - 1) (nth b) (omega (arith, posed.least)) e_dead.tried.most (low (nth b) y₀ e_dead)

    -- what the last one is before, the dead end is before
    final_before : (y : List ℕ) → ((j : ℕ) → j < events q → at y j < q.meaning.period) → Before final.0 y → Before (nth b) y
    final_before y lo c = elim (cases_lt c.place (length (nth b))) [
      | inl u ↦ record { place = c.place; in_x = u; in_y = c.in_y; same = λ j h. final.2.same j (omega arith) ∙ c.same j h; less = omega (arith, c.less, final.2.same c.place u) }
      | inr u ↦ let k : c.place < events q = omega (arith, c.in_x, final.1.len) in absurd (omega (arith, c.less, final.3 c.place u k, lo c.place k))
    ]

    e_before : Before (nth b) y₁
    e_before = final_before y₁ next.timetable.minute (next.after final.0 final.1 final.2)

    forward : Before y₁ y₀ → ⊥
    forward c = e_dead.tried.from_floor (before_trans (nth b) y₁ y₀ e_before c)

    not_before : (p : List ℕ) → length p ≤ events q → (Before p y₁ → ⊥) → Before p y₀ → ⊥
    not_before p l n c = elim (compared p y₁) [
      | lower u ↦ n u
      | upper u ↦ forward (before_trans y₁ p y₀ u c)
      | inner u ↦ forward (begins_before p y₁ y₀ c u)
      | outer u ↦ forward (subst (λ z. Before z y₀) (sym (begins_same y₁ p u (omega (arith, next.timetable.len)))) c)
    ]

    -- what the dead end is before is not before the next floor
    beyond : (p : List ℕ) → length p ≤ events q → ((j : ℕ) → j < length p → at p j < q.meaning.period) → Before (nth b) p → Before p y₁ → ⊥
    beyond p l lo c d =
        let z = pad q.meaning.period (events q) 0 p (omega (arith, posed.least)) l lo in
        next.first z.0 z.1 (λ x t g. before_begins x p z.0 (begins_before (nth b) x p c g) z.2) (begins_before p z.0 y₁ d z.2)

    ahead_of : (p : List ℕ) → DeadEnd q o y₁ p → Before (nth b) p
    ahead_of p d = elim (compared (nth b) p) [
      | lower u ↦ u
      | upper u ↦ absurd (d.tried.from_floor (before_trans p (nth b) y₁ u e_before))
      | inner u ↦ absurd (d.tried.from_floor (subst (λ z. Before z y₁) (antichain q posed o y₀ (nth b) p e_dead (back p d) u) e_before))
      | outer u ↦ absurd (d.tried.from_floor (subst (λ z. Before z y₁) (sym (antichain q posed o y₀ p (nth b) (back p d) e_dead u)) e_before))
    ]
      where
        back : (p : List ℕ) → DeadEnd q o y₁ p → DeadEnd q o y₀ p
        back p d = record { tried = record { some = d.tried.some; most = d.tried.most; alive = d.tried.alive; left = d.tried.left; from_floor = not_before p d.tried.most d.tried.from_floor }; dead = d.dead }

    solves_back : (x : List ℕ) → Solves q y₁ x → Solves q y₀ x
    solves_back x s = record { timetable = s.timetable; from_floor = not_before x (omega (arith, s.timetable.len)) s.from_floor; allowed = s.allowed; meets = s.meets }

    solves_on : (x : List ℕ) → Solves q y₀ x → Solves q y₁ x
    solves_on x s = record { timetable = s.timetable; from_floor = λ c. go (search_ends q posed o y₀ (omega (arith, posed.least)) from).outcome c; allowed = s.allowed; meets = s.meets }
      where
        go : ((x : List ℕ) × Sought q y₀ x) ⊎ Unsolved q y₀ → Before x y₁ → ⊥
        go (inr u) c = u x s
        go (inl u) c =
            let t = u.1.solves.timetable in
            let far : Before u.0 y₁ → ⊥ = beyond u.0 (omega (arith, t.len)) (λ j h. t.minute j (omega (arith, t.len))) ((num.holds b (omega arith)).before u.0 u.1) in
            elim (u.1.earliest x s) [ inl k ↦ far (subst (λ z. Before z y₁) k c) | inr k ↦ far (before_trans u.0 x y₁ k c) ]

    pub sought_back : (x : List ℕ) → Sought q y₁ x → Sought q y₀ x
    sought_back x s = record { solves = solves_back x s.solves; earliest = λ y k. s.earliest y (solves_on y k) }

    sought_on : (x : List ℕ) → Sought q y₀ x → Sought q y₁ x
    sought_on x s = record { solves = solves_on x s.solves; earliest = λ y k. s.earliest y (solves_back y k) }

    pub unsolved_back : Unsolved q y₁ → Unsolved q y₀
    unsolved_back u x s = u x (solves_on x s)

    counted_back : (p : List ℕ) → Counted q o y₁ p → Counted q o y₀ p
    counted_back p c = record {
      dead_end = record { tried = record { some = c.dead_end.tried.some; most = c.dead_end.tried.most; alive = c.dead_end.tried.alive; left = c.dead_end.tried.left; from_floor = not_before p c.dead_end.tried.most c.dead_end.tried.from_floor }; dead = c.dead_end.dead };
      before = λ x s. c.before x (sought_on x s);
    }

    counted_on : (p : List ℕ) → Counted q o y₀ p → Before (nth b) p → Counted q o y₁ p
    counted_on p c h = record { dead_end = move_dead y₁ p c.dead_end (beyond p c.dead_end.tried.most (low p y₀ c.dead_end) h); before = λ x s. c.before x (sought_back x s) }

    -- the dead ends from the next floor are the others
    pub the_others : Listed (Counted q o y₁) (N - suc b) (λ i. nth (suc b + i))
    the_others = record {
      rising = λ i j l h. num.rising (suc b + i) (suc b + j) (omega arith) (omega arith);
      holds = λ i h. counted_on (nth (suc b + i)) (num.holds (suc b + i) (omega arith)) (num.rising b (suc b + i) (omega arith) (omega arith));
      all = λ p c. go p c (num.all p (counted_back p c));
    }
      where
        go : (p : List ℕ) → Counted q o y₁ p → (i : ℕ) × (i < N) × (nth i ≡ p) → (i : ℕ) × (i < N - suc b) × (nth (suc b + i) ≡ p)
        go p c r = elim (cases_order b r.0) [
          | inl k ↦ absurd (before_irreflexive (nth b) (subst (λ z. Before (nth b) z) (sym r.2 ∙ ap nth (sym k)) (ahead_of p c.dead_end)))
          | inr (inl k) ↦ (r.0 - suc b, omega (arith, r.1), ap nth (let w : suc b + (r.0 - suc b) ≡ r.0 = omega arith in w) ∙ r.2)
          | inr (inr k) ↦ absurd (before_irreflexive (nth b) (before_trans (nth b) p (nth b) (ahead_of p c.dead_end) (subst (λ z. Before z (nth b)) r.2 (num.rising r.0 b k (omega arith)))))
        ]

-- what the first find leaves to the second
record Onward (q : Problem) (o : Way q) (y₀ y₁ : List ℕ) (b N : ℕ) (nth : ℕ → List ℕ) : Type 0 where
  len : length y₁ ≡ events q
  others : Listed (Counted q o y₁) (N - b) (λ i. nth (b + i))
  sought_back : (x : List ℕ) → Sought q y₁ x → Sought q y₀ x
  unsolved_back : Unsolved q y₁ → Unsolved q y₀

module _ (q : Problem) (posed : WellPosed q) (o : Way q) (y₀ y₁ : List ℕ) (from : FloorOf q y₀) (N : ℕ) (nth : ℕ → List ℕ) (num : Listed (Counted q o y₀) N nth) where
  onward : (b : ℕ) → b < N → NextFloor q y₀ b nth y₁ → Onward q o y₀ y₁ b N nth
  onward zero less next = record {
    len = len;
    others = record {
      rising = λ i j l h. rw (z+ i) (rw (z+ j) (num.rising i j l (omega arith)));
      holds = λ i h. rw (z+ i) (on (nth i) (num.holds i (omega arith)));
      all = λ p c. let r = num.all p (back p c) in (r.0, omega (arith, r.1), ap nth (let w : 0 + r.0 ≡ r.0 = omega arith in w) ∙ r.2);
    };
    sought_back = λ x s. sb x s;
    unsolved_back = λ u x s. u x (swap_solves q o y₁ y₀ lo from.long eq x s);
  }
    where
      z+ : (i : ℕ) → nth (0 + i) ≡ nth i
      z+ i = ap nth (let w : 0 + i ≡ i = omega arith in w)

      e : y₁ ≡ take (events q) y₀
      e = next.given refl

      len : length y₁ ≡ events q
      len = ap length e ∙ omega (arith, length-take (events q) y₀, from.long)

      lo : events q ≤ length y₁
      lo = omega (arith, len)

      eq : (j : ℕ) → j < events q → at y₁ j ≡ at y₀ j
      eq j h = ap (λ w. at w j) e ∙ get_or-take (events q) y₀ j 0 h

      qe : (j : ℕ) → j < events q → at y₀ j ≡ at y₁ j
      qe j h = sym (eq j h)

      sb : (x : List ℕ) → Sought q y₁ x → Sought q y₀ x
      sb x s = record { solves = swap_solves q o y₀ y₁ from.long lo qe x s.solves; earliest = λ w k. s.earliest w (swap_solves q o y₁ y₀ lo from.long eq w k) }

      so : (x : List ℕ) → Sought q y₀ x → Sought q y₁ x
      so x s = record { solves = swap_solves q o y₁ y₀ lo from.long eq x s.solves; earliest = λ w k. s.earliest w (swap_solves q o y₀ y₁ from.long lo qe w k) }

      on : (p : List ℕ) → Counted q o y₀ p → Counted q o y₁ p
      on p c = record { dead_end = swap_dead q o y₁ y₀ lo from.long eq p c.dead_end; before = λ x s. c.before x (sb x s) }

      back : (p : List ℕ) → Counted q o y₁ p → Counted q o y₀ p
      back p c = record { dead_end = swap_dead q o y₀ y₁ from.long lo qe p c.dead_end; before = λ x s. c.before x (so x s) }
  onward (suc b) less next =
      let f = next.after b refl in
      record { len = f.timetable.len; others = the_others q posed o y₀ from N nth num b less y₁ f; sought_back = sought_back q posed o y₀ from N nth num b less y₁ f; unsolved_back = unsolved_back q posed o y₀ from N nth num b less y₁ f }

-- a find from the first floor with both budgets says what the second says
pub resumed : (q : Problem) → WellPosed q → (o : Way q) (y₀ y₁ : List ℕ) (b₁ b₂ k : ℕ) (a : Answer) (x : List ℕ) → FloorOf q y₀
    → Finds q o y₀ b₁ (Spent k) y₁ → Finds q o y₁ b₂ a x → Finds q o y₀ (b₁ + b₂) (added b₁ a) x
resumed q posed o y₀ y₁ b₁ b₂ k a x from f g = record { number = f.number; nth = f.nth; listed = f.listed; says = go a g.says }
  where
    over : b₁ < f.number
    over = f.says.1

    next : NextFloor q y₀ b₁ f.nth y₁
    next = f.says.2

    on : Onward q o y₀ y₁ b₁ f.number f.nth
    on = onward q posed o y₀ y₁ from f.number f.nth f.listed b₁ over next

    n : g.number ≡ f.number - b₁
    n = same_number (Counted q o y₁) g.number (f.number - b₁) g.nth (λ i. f.nth (b₁ + i)) g.listed on.others

    named : (i : ℕ) → i < g.number → g.nth i ≡ f.nth (b₁ + i)
    named i h = (agrees (Counted q o y₁) g.number (f.number - b₁) g.nth (λ i. f.nth (b₁ + i)) g.listed on.others i h).1

    floors : (b : ℕ) → b < g.number → NextFloor q y₁ b g.nth x → NextFloor q y₀ (b₁ + b) f.nth x
    floors zero l u =
        let e : x ≡ y₁ = u.given refl ∙ take_all (events q) y₁ (omega (arith, on.len)) in
        record { given = λ z. e ∙ next.given (omega arith); after = λ c z. subst (λ w. FirstAfter q.meaning.period (events q) (f.nth c) w) (sym e) (next.after c (omega arith)) }
    floors (suc b) l u =
        record { given = λ z. absurd (omega arith); after = λ c z. subst (λ w. FirstAfter q.meaning.period (events q) w x) (named b (omega arith) ∙ ap f.nth (let w : b₁ + b ≡ c = omega arith in w)) (u.after b refl) }

    go : (a : Answer) → Says q y₁ b₂ g.number g.nth a x → Says q y₀ (b₁ + b₂) f.number f.nth (added b₁ a) x
    go (Found l) s = (omega (arith, s.0, n, over), omega (arith, s.1, n), on.sought_back x s.2)
    go (Nothing l) s = (omega (arith, s.0, n, over), omega (arith, s.1, n), on.unsolved_back s.2, s.3)
    go (Spent l) s = (omega (arith, s.0), omega (arith, s.1, n), floors b₂ s.1 s.2)
