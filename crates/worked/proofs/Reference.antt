-- A search that computes. It narrows every rest by one list of relation numbers and ends in nothing where that does not
-- settle, or where the fuel is too little; what it answers otherwise is right (see Meets).
use Rattle.std.proofs.Common.{ℕ, zero, suc, ◌-◌, Bool, true, false, ◌&&◌, eqb, ltb, List, [], ◌∷◌, take}
use Rattle.minutes.specs.Minutes.{at}
use Rattle.relations.specs.Meaning.{Meaning, relation, size}
use Rattle.relations.specs.ExactNarrowing.{has}
use Rattle.rest.specs.Rest.{narrowed, has_empty}
use Rattle.search.specs.declared.Answer.{Answer}
use Rattle.search.specs.declared.Answer.TheVariants.{Found, Nothing, Spent}
use Rattle.search.specs.Search.{held, Problem, events}
use Rattle.search.proofs.Finish.{cut}

-- an answer with what is written, or nothing
pub data Outcome : Type 0 where
  answers : Answer → List ℕ → Outcome
  nothing : Outcome

-- one of two, of which only that one is computed
abbrev pub pick : Bool → (Unit {0} → Outcome) → (Unit {0} → Outcome) → Outcome
pick true f g = f tt
pick false f g = g tt

abbrev pub equal : List ℕ → List ℕ → Bool
equal [] [] = true
equal [] (b ∷ y) = false
equal (a ∷ x) [] = false
equal (a ∷ x) (b ∷ y) = eqb a b && equal x y

-- the first n relations leave f as it is
abbrev pub at_rest : Meaning → ℕ → List ℕ → Bool
at_rest m zero f = true
at_rest m (suc n) f = equal ((relation m n).narrowing f) f && at_rest m n f

-- the lowest minute of s from lo on, or lo + n
abbrev pub low_from : ℕ → ℕ → ℕ → ℕ
low_from s lo zero = lo
low_from s lo (suc n) = elim (has lo s) [ true ↦ lo | false ↦ low_from s (suc lo) n ]

-- the place among the first d whose minute is raised
abbrev pub raised_place : ℕ → List ℕ → ℕ → ℕ
raised_place T y zero = 0
raised_place T y (suc zero) = 0
raised_place T y (suc (suc d)) = elim (ltb (suc (at y (suc d))) T) [ true ↦ suc d | false ↦ raised_place T y (suc d) ]

abbrev pub raised_edge : ℕ → List ℕ → ℕ → List ℕ
raised_edge T y d = let i = raised_place T y d in cut y i (suc (at y i))

-- how a search goes on: from the edge y at depth d, where n dead ends are counted and onward is the floor after the last
abbrev pub Next : Type 0
Next = (y onward : List ℕ) (d n : ℕ) → Outcome

-- where the first d minutes of the edge are not alive
abbrev pub at_dead : (T budget : ℕ) → Next → Next
at_dead T budget next y onward d n =
    pick (eqb d 0)
    (λ _. answers (Nothing n) [])
    (λ _. pick (eqb n budget)
    (λ _. answers (Spent n) onward)
    (λ _. next (raised_edge T y d) (raised_edge T y d) (raised_place T y d) (suc n)))

-- where they are, and t is the lowest minute left from the edge's on, or T
abbrev pub at_minute : (T t : ℕ) → Next → Next
at_minute T t next y onward d n =
    pick (ltb t T)
    (λ _. pick (eqb t (at y d)) (λ _. next y onward (suc d) n) (λ _. next (cut y d t) onward (suc d) n))
    (λ _. pick (eqb d 0) (λ _. answers (Nothing n) []) (λ _. next (raised_edge T y d) onward (raised_place T y d) n))

-- where r is the rest of an alive prefix
abbrev pub at_alive : (T events : ℕ) (r : List ℕ) → Next → Next
at_alive T events r next y onward d n =
    pick (eqb d events) (λ _. answers (Found n) y) (λ _. at_minute T (low_from (at r d) (at y d) (T - at y d)) next y onward d n)

-- where narrowing came to r
abbrev pub at_prefix : Problem → (budget : ℕ) (r : List ℕ) → Next → Next
at_prefix q budget r next y onward d n =
    pick (at_rest q.meaning (size q.meaning) r)
    (λ _. pick (has_empty r)
    (λ _. at_dead q.meaning.period budget next y onward d n)
    (λ _. at_alive q.meaning.period (events q) r next y onward d n))
    (λ _. nothing)

abbrev pub searched : Problem → (numbers : List ℕ) (budget fuel : ℕ) → Next
searched q ks budget zero y onward d n = nothing
searched q ks budget (suc fuel) y onward d n =
    at_prefix q budget (narrowed q.meaning ks (held (take d y) q.allowed)) (searched q ks budget fuel) y onward d n
