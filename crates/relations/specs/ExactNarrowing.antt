-- Exact narrowing: each named event keeps exactly those minutes below the period, of its set, for which the other named
-- events have minutes below the period in their sets so that the condition holds; any other set stays as it is.
use Rattle.std.specs.Prelude.{◌≡◌, ℕ, zero, suc, ◌+◌, ◌-◌, ◌*◌, ◌/◌, ◌%◌, ◌^◌, ◌<◌, ◌≤◌, Bool, true, false, cond, not, ◌&&◌, ◌||◌, List, [], ◌∷◌, map, length, ◌==◌}
use Rattle.minutes.specs.Minutes.{In, at}
use Rattle.relations.specs.Meaning.{Relation, Deflates, Sound, Exact, Monotone, Silent, Confined}

-- minute m is in the set s
abbrev pub has : ℕ → ℕ → Bool
has m s = s / 2 ^ m % 2 == 1

-- some minute below n passes the test
abbrev pub any : ℕ → (ℕ → Bool) → Bool
any zero test = false
any (suc n) test = test 0 || any n (λ m. test (suc m))

-- the set of the minutes below n that pass the test
abbrev pub those : ℕ → (ℕ → Bool) → ℕ
those zero test = 0
those (suc n) test = cond (test 0) 1 0 + 2 * those n (λ m. test (suc m))

-- e is one of the events
abbrev pub named : ℕ → List ℕ → Bool
named e [] = false
named e (d ∷ ds) = e == d || named e ds

-- no event stands twice
abbrev pub distinct : List ℕ → Bool
distinct [] = true
distinct (e ∷ es) = not (named e es) && distinct es

-- what stands at event e
abbrev pub of : List ℕ → ℕ → ℕ
of f e = at f (e - 1)

-- the events have minutes below T, each one that it may have, so that the condition holds of their list
abbrev pub choice : ℕ → (ℕ → ℕ → Bool) → List ℕ → (List ℕ → Bool) → Bool
choice T may [] c = c []
choice T may (e ∷ es) c = any T (λ m. may e m && choice T may es (λ ms. c (m ∷ ms)))

-- event e may have minute m alone, any other event d the minutes t of its set
abbrev pub fixing : List ℕ → ℕ → ℕ → ℕ → ℕ → Bool
fixing f e m d t = cond (d == e) (t == m) (has t (of f d))

-- what event e keeps of its set s
abbrev pub kept : ℕ → List ℕ → (List ℕ → Bool) → List ℕ → ℕ → ℕ → ℕ
kept T names c f e s = those T (λ m. has m s && choice T (fixing f e m) names c)

-- a function of event and set at each place, from event e on
abbrev pub each : (ℕ → ℕ → ℕ) → ℕ → List ℕ → List ℕ
each g e [] = []
each g e (s ∷ f) = g e s ∷ each g (suc e) f

-- the family f narrowed exactly
abbrev pub narrowed : ℕ → List ℕ → (List ℕ → Bool) → List ℕ → List ℕ
narrowed T names c f = each (λ e s. cond (named e names) (kept T names c f e s) s) 1 f

-- the relation that names these events, holds where c holds of their minutes, and narrows exactly
abbrev pub exactly : ℕ → List ℕ → (List ℕ → Bool) → Relation
exactly T names c = record { condition = λ x. c (map (of x) names); narrowing = narrowed T names c }

-- events from 1 to the reach, at least one
pub record Names (reach : ℕ) (names : List ℕ) : Type 0 where
  pub some : 0 < length names
  pub low : (e : ℕ) → named e names ≡ true → 1 ≤ e
  pub high : (e : ℕ) → named e names ≡ true → e ≤ reach

-- a relation that keeps every law at this period and reach
pub record Lawful (T reach : ℕ) (r : Relation) : Type 0 where
  pub deflation : Deflates reach r
  pub soundness : Sound T reach r
  pub exactness : Exact T reach r
  pub monotony : Monotone reach r
  pub silence : Silent reach r
  pub confinement : Confined reach r

-- exact narrowing keeps the laws, for every condition
abbrev pub ExactIsLawful : Type 0
ExactIsLawful = (T reach : ℕ) (names : List ℕ) (c : List ℕ → Bool) → Names reach names → Lawful T reach (exactly T names c)

-- minutes by event: those of the named events are below T and in their sets, and the condition holds of them
pub record Allowed (T : ℕ) (names : List ℕ) (c : List ℕ → Bool) (f : List ℕ) (x : ℕ → ℕ) : Type 0 where
  pub below : (e : ℕ) → named e names ≡ true → x e < T
  pub inside : (e : ℕ) → named e names ≡ true → In (x e) (of f e)
  pub met : c (map x names) ≡ true

-- what exact narrowing does, said of the minutes of all named events at once: a named event keeps the minutes that it has
-- in allowed assignments, and no other; every other set is as it was
pub record ExactInWords : Type 0 where
  pub same_length : (T : ℕ) (names : List ℕ) (c : List ℕ → Bool) (f : List ℕ) → length (narrowed T names c f) ≡ length f
  pub others_stay : (T : ℕ) (names : List ℕ) (c : List ℕ → Bool) (f : List ℕ) (e : ℕ) → 1 ≤ e → named e names ≡ false →
      of (narrowed T names c f) e ≡ of f e
  pub good_stay : (T : ℕ) (names : List ℕ) (c : List ℕ → Bool) (f : List ℕ) (e : ℕ) (x : ℕ → ℕ) → 1 ≤ e → e ≤ length f →
      named e names ≡ true → Allowed T names c f x → In (x e) (of (narrowed T names c f) e)
  pub bad_go : (T : ℕ) (names : List ℕ) (c : List ℕ → Bool) (f : List ℕ) (e m : ℕ) → 1 ≤ e → e ≤ length f →
      named e names ≡ true → distinct names ≡ true → In m (of (narrowed T names c f) e) →
      (x : ℕ → ℕ) × Allowed T names c f x × (x e ≡ m)
