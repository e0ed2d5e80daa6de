-- A search on its way, as the code holds it, and its steps in the code's terms.
use Rattle.std.proofs.Common.{◌≡◌, ℕ, suc, ◌<◌, ◌≤◌, ◌⊎◌, List, [], length, take, sym, refl, ◌∙◌, subst, inl, inr, arith}
use Rattle.std.proofs.lemmas.Bool.{cases_order}
use Rattle.std.proofs.lemmas.List.{length-take, take_all}
use Rattle.minutes.specs.Minutes.{In, at, NoneEmpty, Before}
use Rattle.rest.specs.Rest.{Rest}
use Rattle.search.specs.declared.Answer.TheVariants.{Found, Nothing, Spent}
use Rattle.search.specs.Search.{Problem, events, held, WellPosed, FloorOf, Way, rest_of, Alive, FirstAfter, NextFloor, Finds}
use Rattle.rest.proofs.Settling.{one_rest}
use Rattle.search.proofs.Edges.{Edge, Raised, Lowered}
use Rattle.search.proofs.Living.{is_rest, left_allowed}
use Rattle.search.proofs.Raising.{raised_before, raised_floor, raised_first}
use Rattle.search.proofs.Listing.{more, more_at, more_low}
use Rattle.search.proofs.Walk.{Walk, dead_step, up_step, y_low}
use Rattle.search.proofs.Ends.{start, down_step, found_end, none_end}
use Rattle.search.proofs.Worth.{ahead, ahead_up, ahead_down}
use Rattle.search.proofs.Finish.{finish, raised}

-- the edge has come to y and the depth to d; n dead ends are counted, and onward is the floor after the last of them
pub record State (q : Problem) (o : Way q) (floor y onward : List ℕ) (d n : ℕ) : Type 0 where
  pub names : ℕ → List ℕ
  pub walk : Walk q o floor y d n names
  pub behind : at onward 0 ≤ at y 0
  pub next : at onward 0 < q.meaning.period → NextFloor q floor n names onward

module _ (q : Problem) (posed : WellPosed q) (o : Way q) (floor : List ℕ) where
  pub st_start : FloorOf q floor → length floor ≡ events q → State q o floor floor floor 0 0
  st_start f e = let t : take (events q) floor ≡ floor = take_all (events q) floor (omega arith) in
      record { names = λ _. []; walk = subst (λ z. Walk q o floor z 0 0 (λ _. [])) t (start q posed o floor f); behind = omega arith; next = λ _. record { given = λ _. sym t; after = λ b z. absurd (omega arith) } }

  module _ (y onward : List ℕ) (d n : ℕ) (s : State q o floor y onward d n) (r : List ℕ) (rest : Rest q.meaning (held (take d y) q.allowed) r) where
    is : r ≡ rest_of q o (take d y)
    is = one_rest q.meaning (held (take d y) q.allowed) r _ rest (is_rest q posed o (take d y))

    lives : NoneEmpty r → Alive q o (take d y)
    lives f = subst (λ z. NoneEmpty z) is f

    dies : (NoneEmpty r → ⊥) → Alive q o (take d y) → ⊥
    dies f l = f (subst (λ z. NoneEmpty z) (sym is) l)

    pos : 0 < q.meaning.period
    pos = omega (arith, posed.least)

    module _ (i : ℕ) (y' : List ℕ) (u : Raised q.meaning.period (events q) y d i y') where
      b : Before y y'
      b = raised_before q.meaning.period (events q) y d i y' s.walk.edge s.walk.depth u

      f : Edge q.meaning.period (events q) y'
      f = raised_floor q.meaning.period (events q) y d i y' s.walk.edge s.walk.depth u (y_low q posed o floor y d n s.names s.walk i u.inside)

      pub less_raised : ahead q.meaning.period (events q) y' i < ahead q.meaning.period (events q) y d
      less_raised = ahead_up q.meaning.period (events q) y y' i d pos s.walk.edge f b

      rises : at y 0 ≤ at y' 0
      rises = elim (cases_order 0 i) [ inl e ↦ subst (λ z. at y z ≤ at y' z) (sym e) (omega (arith, u.up)) | inr (inl l) ↦ omega (arith, u.same 0 l) | inr (inr l) ↦ absurd (omega arith) ]

      pub st_dead : (NoneEmpty r → ⊥) → State q o floor y' y' i (suc n)
      st_dead no_life = record {
        names = more s.names n (take d y);
        walk = dead_step q posed o floor y d n s.names s.walk i y' (omega (arith, u.inside)) (dies no_life) u;
        behind = omega arith;
        next = λ h. record {
          given = λ z. absurd (omega arith);
          after = λ c z. let e : n ≡ c = omega arith in
              subst (λ k. FirstAfter q.meaning.period (events q) (more s.names n (take d y) k) y') e (subst (λ p. FirstAfter q.meaning.period (events q) p y') (sym (more_at s.names n (take d y))) (raised_first q.meaning.period (events q) y d i y' s.walk.edge s.walk.depth u pos f h));
        };
      }

      pub st_up : NoneEmpty r → d < events q → ((t : ℕ) → at y d ≤ t → t < q.meaning.period → In t (at r d) → ⊥) → State q o floor y' onward i n
      st_up life deep bare = record { names = s.names; walk = up_step q posed o floor y d n s.names s.walk i y' deep (lives life) (λ t a k. bare t a (left_low t k) (subst (λ z. In t (at z d)) (sym is) k)) u; behind = omega (arith, s.behind, rises); next = s.next }
        where
          left_low : (t : ℕ) → In t (at (rest_of q o (take d y)) d) → t < q.meaning.period
          left_low t h = let e : d ≡ length (take d y) = omega (arith, length-take d y, s.walk.edge.len, s.walk.depth) in
              posed.minutes (length (take d y)) t (left_allowed q posed o (take d y) t (subst (λ z. In t (at (rest_of q o (take d y)) z)) e h))

    module _ (t : ℕ) (y' : List ℕ) (u : Lowered (events q) y d t y') (life : NoneEmpty r) (deep : d < events q) (left : In t (at r d)) (above : at y d ≤ t) (least : (v : ℕ) → at y d ≤ v → v < t → In v (at r d) → ⊥) where
      pub st_down : State q o floor y' onward (suc d) n
      st_down = record {
        names = s.names;
        walk = down_step q posed o floor y d n s.names s.walk t y' deep (lives life) (record { left = subst (λ z. In t (at z d)) is left; above = above; least = λ v a l k. least v a l (subst (λ z. In v (at z d)) (sym is) k) }) u;
        behind = omega (arith, s.behind, elim (cases_order 0 d) as (λ _. at y 0 ≤ at y' 0) [ inl e ↦ subst (λ z. at y z ≤ at y' z) (sym e) (omega (arith, u.here)) | inr (inl l) ↦ omega (arith, u.same 0 l) | inr (inr l) ↦ absurd (omega arith) ]);
        next = s.next;
      }

      pub less_lowered : ahead q.meaning.period (events q) y' (suc d) < ahead q.meaning.period (events q) y d
      less_lowered = elim u.behind [
        | inl e ↦ subst (λ z. ahead q.meaning.period (events q) z (suc d) < ahead q.meaning.period (events q) y d) (sym e) (ahead_down q.meaning.period (events q) y d deep)
        | inr k ↦ ahead_up q.meaning.period (events q) y y' (suc d) d pos s.walk.edge st_down.walk.edge
            (record { place = d; in_x = omega (arith, s.walk.edge.len); in_y = omega (arith, u.len); same = λ j h. sym (u.same j h); less = omega (arith, u.here, k.0) })
      ]

    pub st_found : (budget : ℕ) → NoneEmpty r → d ≡ events q → n ≤ budget → Finds q o floor budget (Found n) y
    st_found budget life e h =
        let k = found_end q posed o floor y d n s.names s.walk e (lives life) in
        (record { number = n; nth = s.names; listed = k.1; says = (refl, h, k.0) })

    over : (budget : ℕ) → n ≤ budget → d ≡ 0 → ((Alive q o [] → ⊥) ⊎ ((t : ℕ) → at y 0 ≤ t → In t (at (rest_of q o []) 0) → ⊥)) → Finds q o floor budget (Nothing n) []
    over budget h e c =
        let k = none_end q posed o floor y d n s.names s.walk e c in
        (record { number = n; nth = s.names; listed = k.1; says = (refl, h, k.0, refl) })

    pub st_dead_root : (budget : ℕ) → n ≤ budget → d ≡ 0 → (NoneEmpty r → ⊥) → Finds q o floor budget (Nothing n) []
    st_dead_root budget h e no_life = over budget h e (inl (subst (λ k. Alive q o (take k y) → ⊥) e (dies no_life)))

    pub st_none : (budget : ℕ) → n ≤ budget → d ≡ 0 → ((t : ℕ) → at y d ≤ t → t < q.meaning.period → In t (at r d) → ⊥) → Finds q o floor budget (Nothing n) []
    st_none budget h e bare = over budget h e (inr (λ t a k. root t a (posed.minutes 0 t (left_allowed q posed o [] t k)) k))
      where
        root : (t : ℕ) → at y 0 ≤ t → t < q.meaning.period → In t (at (rest_of q o []) 0) → ⊥
        root = subst (λ k. (t : ℕ) → at y k ≤ t → t < q.meaning.period → In t (at (rest_of q o (take k y)) k) → ⊥) e (λ t a l k. bare t a l (subst (λ z. In t (at z d)) (sym is) k))

    -- a dead end more than the budget
    pub st_spent : (budget : ℕ) → 0 < d → (NoneEmpty r → ⊥) → n ≡ budget → Finds q o floor budget (Spent n) onward
    st_spent budget deep no_life e =
        let v = raised q.meaning.period (events q) y d s.walk.edge.len deep s.walk.depth in
        let i = v.0 in
        let y' = v.1 in
        let u = v.2 in
        let w = dead_step q posed o floor y d n s.names s.walk i y' deep (dies no_life) u in
        let x = finish q posed o floor pos (suc (ahead q.meaning.period (events q) y' i)) y' i (suc n) (more s.names n (take d y)) w (omega arith) in
        let nx = s.next (omega (arith, s.behind, y_low q posed o floor y d n s.names s.walk 0 deep)) in
        (record {
          number = x.number;
          nth = x.names;
          listed = x.listed;
          says = (
            e,
            omega (arith, x.least),
            record {
              given = λ z. nx.given (omega arith);
              after = λ c z.
                  subst (λ p. FirstAfter q.meaning.period (events q) p onward) (sym (x.same c (omega arith) ∙ more_low s.names n (take d y) c (omega arith))) (nx.after c (omega arith));
            },
          );
        })
