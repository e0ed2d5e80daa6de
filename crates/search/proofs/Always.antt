-- Every search has an answer.
use Rattle.std.proofs.Common.{◌≡◌, ℕ, zero, suc, ◌<◌, ◌≤◌, List, [], length, take, sym, refl, subst, inl, inr, arith}
use Rattle.std.proofs.lemmas.Bool.{cases_lt}
use Rattle.minutes.specs.Minutes.{at, Before}
use Rattle.search.specs.declared.Answer.{Answer}
use Rattle.search.specs.declared.Answer.TheVariants.{Found, Nothing, Spent}
use Rattle.search.specs.Search.{Problem, events, WellPosed, FloorOf, Way, DeadEnd, FirstAfter, NextFloor, Finds}
use Rattle.search.specs.Theorems.{AlwaysAnswers}
use Rattle.search.proofs.Edges.{Edge}
use Rattle.search.proofs.Raising.{raised_next, raised_floor, raised_first}
use Rattle.search.proofs.Walk.{path_low, tried_path, begins_take}
use Rattle.search.proofs.Finish.{End, raised, search_ends}
use Rattle.search.proofs.Resuming.{pad}

-- where something comes after p, there is a first timetable after all that begin with p
first_after : (T E : ℕ) (p z : List ℕ) → 0 < T → 0 < length p → length p ≤ E → ((j : ℕ) → j < length p → at p j < T) →
    ((j : ℕ) → j < length z → at z j < T) → Before p z → (y : List ℕ) × FirstAfter T E p y
first_after T E p z pos some most low zlow b =
    let f = pad T E 0 p pos most low in
    let y = f.0 in
    let d = length p in
    let is : p ≡ take d y = begins_take p y f.2 in
    let edge : Edge T E y = record { len = f.1.len; first = omega (arith, f.1.minute 0 (omega arith)); later = λ i h l. f.1.minute i l } in
    let r = raised T E y d f.1.len some most in
    let edge' = raised_floor T E y d r.0 r.1 edge most r.2 (f.1.minute r.0 (omega (arith, r.2.inside))) in
    let c : Before (take d y) z = subst (λ w. Before w z) is b in
    let far : at r.1 0 < T = elim (cases_lt (at r.1 0) T) [
      | inl l ↦ l
      | inr l ↦ absurd (raised_next T E y d r.0 r.1 edge most r.2 z zlow
          (record { place = 0; in_x = omega (arith, c.in_y); in_y = omega (arith, edge'.len); same = λ j h. absurd (omega arith); less = omega (arith, zlow 0 (omega (arith, c.in_y))) }) c)
    ] in
    (r.1, subst (λ w. FirstAfter T E w r.1) (sym is) (raised_first T E y d r.0 r.1 edge most r.2 pos edge' far))

module _ (q : Problem) (posed : WellPosed q) (way : Way q) (floor : List ℕ) (from : FloorOf q floor) where
  pos : 0 < q.meaning.period
  pos = omega (arith, posed.least)

  ends : End q way floor 0 (λ _. [])
  ends = search_ends q posed way floor pos from

  next : (b : ℕ) → b < ends.number → (y : List ℕ) × NextFloor q floor b ends.names y
  next zero h = (take (events q) floor, record { given = λ _. refl; after = λ c e. absurd (omega arith) })
  next (suc b) h =
      let d : (i : ℕ) → i < ends.number → DeadEnd q way floor (ends.names i) = λ i l. (ends.listed.holds i l).dead_end in
      let low : (i : ℕ) → i < ends.number → (j : ℕ) → j < length (ends.names i) → at (ends.names i) j < q.meaning.period =
      λ i l. path_low q posed way floor (ends.names i) (tried_path q posed way floor (ends.names i) (d i l).tried) in
      let t = (d b (omega arith)).tried in
      let r = first_after q.meaning.period (events q) (ends.names b) (ends.names (suc b)) pos t.some t.most (low b (omega arith)) (low (suc b) h) (ends.listed.rising b (suc b) (omega arith) h) in
      (r.0, record { given = λ e. absurd (omega arith); after = λ c e. subst (λ k. FirstAfter q.meaning.period (events q) (ends.names k) r.0) (let w : b ≡ c = omega arith in w) r.1 })

  answers : (budget : ℕ) → (a : Answer) × (x : List ℕ) × Finds q way floor budget a x
  answers budget = elim (cases_lt budget ends.number) [
    | inl l ↦ let r = next budget l in (Spent budget, r.0, record { number = ends.number; nth = ends.names; listed = ends.listed; says = (refl, l, r.1) })
    | inr l ↦ elim ends.outcome [
      | inl s ↦ (Found ends.number, s.0, record { number = ends.number; nth = ends.names; listed = ends.listed; says = (refl, l, s.1) })
      | inr u ↦ (Nothing ends.number, [], record { number = ends.number; nth = ends.names; listed = ends.listed; says = (refl, l, u, refl) })
    ]
  ]

pub always_answers : AlwaysAnswers
always_answers = answers
