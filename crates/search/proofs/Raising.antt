-- Floor-Of one floor to the next: the first list after all that begin with its first d minutes.
use Rattle.std.proofs.Common.{◌≡◌, ℕ, ◌-◌, ◌<◌, ◌≤◌, ◌⊎◌, List, ◌++◌, length, take, replicate, sym, ◌∙◌, subst, inl, inr, arith}
use Rattle.std.proofs.lemmas.Bool.{cases_order, cases_lt}
use Rattle.std.proofs.lemmas.List.{ext_get_or, length-take, get_or-take, length-append, length-replicate, get_or_append_left, get_or-append_right, get_or-replicate}
use Rattle.minutes.specs.Minutes.{Before, at, Timetable}
use Rattle.search.specs.Search.{FirstAfter, Begins}
pub use Rattle.search.proofs.Edges.{Edge, Raised}

pub take_same : (n : ℕ) (x y : List ℕ) → length x ≡ length y → ((j : ℕ) → j < n → at x j ≡ at y j) → take n x ≡ take n y
take_same n x y e s = ext_get_or 0 (take n x) (take n y) (omega (arith, length-take n x, length-take n y))
    (λ j h. let l : j < n = omega (arith, length-take n x) in get_or-take n x j 0 l ∙ s j l ∙ sym (get_or-take n y j 0 l))

module _ (T E : ℕ) (y : List ℕ) (d i : ℕ) (y' : List ℕ) (fy : Edge T E y) (short : d ≤ E) (r : Raised T E y d i y') where
  pub raised_before : Before y y'
  raised_before = record { place = i; in_x = omega (arith, r.inside, fy.len); in_y = omega (arith, r.inside, r.len); same = λ j h. sym (r.same j h); less = omega (arith, r.up) }

  -- nothing lies between what begins with the first d minutes and the new floor
  pub raised_next : (p : List ℕ) → ((j : ℕ) → j < length p → at p j < T) → Before p y' → Before (take d y) p → ⊥
  raised_next p low b c = go (cases_order b.place i) (cases_order c.place i) (cases_order b.place c.place)
    where
      k : ℕ
      k = b.place

      l : ℕ
      l = c.place

      ld : l < d
      ld = omega (arith, length-take d y, c.in_x)

      cl : at y l < at p l
      cl = omega (arith, c.less, get_or-take d y l 0 ld)

      cs : (j : ℕ) → j < l → at y j ≡ at p j
      cs j h = sym (get_or-take d y j 0 (omega (arith, ld))) ∙ c.same j h

      top : i < l → ⊥
      top h = omega (arith, r.last l h ld, cl, low l c.in_y)

      go : (b.place ≡ i) ⊎ ((b.place < i) ⊎ (i < b.place)) → (c.place ≡ i) ⊎ ((c.place < i) ⊎ (i < c.place)) → (b.place ≡ c.place) ⊎ ((b.place < c.place) ⊎ (c.place < b.place)) → ⊥
      go (inr (inr u)) v w = omega (arith, b.less, r.zeros b.place u)
      go (inl u) (inr (inr v)) w = top v
      go (inr (inl u)) (inr (inr v)) w = top v
      go (inl u) (inl v) w = omega (arith, cl, subst (λ z. at p z < at y' z) u b.less, subst (λ z. at y z < at p z) v cl, r.up)
      go (inl u) (inr (inl v)) w = omega (arith, cl, b.same l (omega arith), r.same l v)
      go (inr (inl u)) (inl v) w = omega (arith, b.less, r.same b.place u, cs b.place (omega arith))
      go (inr (inl u)) (inr (inl v)) (inl w) = omega (arith, cl, b.less, r.same c.place v, subst (λ z. at p z < at y' z) w b.less)
      go (inr (inl u)) (inr (inl v)) (inr (inl w)) = omega (arith, b.less, cs b.place w, r.same b.place u)
      go (inr (inl u)) (inr (inl v)) (inr (inr w)) = omega (arith, cl, b.same l w, r.same l v)

  pub raised_floor : at y i < T → Edge T E y'
  raised_floor h = record { len = r.len; first = go (cases_order i 0); later = λ j p q. low j p q (cases_order j i) }
    where
      go : (i ≡ 0) ⊎ ((i < 0) ⊎ (0 < i)) → at y' 0 ≤ T
      go (inl e) = subst (λ z. at y' z ≤ T) e (omega (arith, r.up))
      go (inr (inl l)) = absurd (omega arith)
      go (inr (inr l)) = omega (arith, r.same 0 l, fy.first)

      low : (j : ℕ) → 0 < j → j < E → (j ≡ i) ⊎ ((j < i) ⊎ (i < j)) → at y' j < T
      low j p q (inl e) = subst (λ z. at y' z < T) (sym e) (omega (arith, r.up, r.below (omega arith)))
      low j p q (inr (inl l)) = omega (arith, r.same j l, fy.later j p q)
      low j p q (inr (inr l)) = omega (arith, r.zeros j l)

  pub raised_first : 0 < T → Edge T E y' → at y' 0 < T → FirstAfter T E (take d y) y'
  raised_first pos f h = record { timetable = record { len = f.len; minute = λ j l. low j l (cases_order j 0) }; after = after; first = first }
    where
      low : (j : ℕ) → j < E → (j ≡ 0) ⊎ ((j < 0) ⊎ (0 < j)) → at y' j < T
      low j l (inl e) = subst (λ z. at y' z < T) (sym e) h
      low j l (inr (inl e)) = absurd (omega arith)
      low j l (inr (inr e)) = f.later j e l

      td : length (take d y) ≡ d
      td = omega (arith, length-take d y, fy.len)

      after : (x : List ℕ) → Timetable T E x → Begins (take d y) x → Before x y'
      after x t b =
          let e : (j : ℕ) → j < d → at x j ≡ at y j = λ j l. sym (b.same j (omega (arith, td))) ∙ get_or-take d y j 0 l in
          record { place = i; in_x = omega (arith, t.len, r.inside); in_y = omega (arith, r.len, r.inside); same = λ j l. e j (omega (arith, r.inside)) ∙ sym (r.same j l); less = omega (arith, e i r.inside, r.up) }

      x : List ℕ
      x = take d y ++ replicate (E - d) (T - 1)

      xl : length x ≡ E
      xl = omega (arith, length-append (take d y) (replicate (E - d) (T - 1)), length-replicate (E - d) (T - 1), td)

      xlow : (j : ℕ) → j < d → at x j ≡ at y j
      xlow j l = get_or_append_left (take d y) (replicate (E - d) (T - 1)) 0 j (omega (arith, td)) ∙ get_or-take d y j 0 l

      xhigh : (j : ℕ) → d ≤ j → j < E → at x j ≡ T - 1
      xhigh j l m = get_or-append_right (take d y) (replicate (E - d) (T - 1)) d j 0 td l ∙ get_or-replicate (E - d) (j - d) (T - 1) 0 (omega arith)

      xt : ((j : ℕ) → j < d → at y j < T) → Timetable T E x
      xt g = record { len = xl; minute = λ j l. elim (cases_lt j d) [ inl u ↦ omega (arith, xlow j u, g j u) | inr u ↦ omega (arith, xhigh j u l) ] }

      ylow : (j : ℕ) → j < d → at y j < T
      ylow j l = elim (cases_order j 0) [
        | inl e ↦ subst (λ w. at y w < T) (sym e) (elim (cases_order i 0) [ inl z ↦ let u : at y' i < T = subst (λ w. at y' w < T) (sym z) h in let v : at y i < T = omega (arith, r.up) in subst (λ w. at y w < T) z v | inr (inl z) ↦ absurd (omega arith) | inr (inr z) ↦ omega (arith, r.same 0 z) ])
        | inr (inl e) ↦ absurd (omega arith)
        | inr (inr e) ↦ fy.later j e (omega arith)
      ]

      begins : Begins (take d y) x
      begins = record { shorter = omega (arith, td, xl); same = λ j l. let u : j < d = omega (arith, td) in get_or-take d y j 0 u ∙ sym (xlow j u) }

      first : (z : List ℕ) → Timetable T E z → ((x : List ℕ) → Timetable T E x → Begins (take d y) x → Before x z) → Before z y' → ⊥
      first z t a b = go (a x (xt ylow) begins)
        where
          go : Before x z → ⊥
          go c = last (cases_order c.place i) (cases_order b.place c.place) (cases_lt c.place d)
            where
              zk : at z c.place < T
              zk = t.minute c.place (omega (arith, c.in_y, t.len))

              last : (c.place ≡ i) ⊎ ((c.place < i) ⊎ (i < c.place)) → (b.place ≡ c.place) ⊎ ((b.place < c.place) ⊎ (c.place < b.place)) → (c.place < d) ⊎ (d ≤ c.place) → ⊥
              last u v (inr w) = omega (arith, c.less, zk, xhigh c.place w (omega (arith, c.in_y, t.len)))
              last (inr (inr u)) v (inl w) = omega (arith, c.less, zk, xlow c.place w, r.last c.place u w)
              last (inl u) (inl v) (inl w) = omega (arith, subst (λ o. at x o < at z o) u c.less, subst (λ o. at z o < at y' o) (v ∙ u) b.less, xlow i r.inside, r.up)
              last (inr (inl u)) (inl v) (inl w) = omega (arith, c.less, subst (λ o. at z o < at y' o) v b.less, xlow c.place w, r.same c.place u)
              last (inl u) (inr (inl v)) (inl w) = omega (arith, b.less, c.same b.place v, xlow b.place (omega arith), r.same b.place (omega arith))
              last (inr (inl u)) (inr (inl v)) (inl w) = omega (arith, b.less, c.same b.place v, xlow b.place (omega arith), r.same b.place (omega arith))
              last (inl u) (inr (inr v)) (inl w) = omega (arith, b.less, r.zeros b.place (omega arith))
              last (inr (inl u)) (inr (inr v)) (inl w) = omega (arith, c.less, b.same c.place v, xlow c.place w, r.same c.place u)
