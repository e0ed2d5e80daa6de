-- The dead ends of the example.
use Rattle.std.proofs.Common.{◌≡◌, ℕ, zero, suc, ◌+◌, ◌-◌, ◌<◌, ◌≤◌, List, [], ◌∷◌, length, refl, ap, subst, inl, inr, arith}
use Rattle.std.proofs.lemmas.Bool.{cases_lt, false≢true}
use Rattle.minutes.specs.Minutes.{In, at, Before}
use Rattle.minutes.proofs.Sets.{sub_le, no_minute}
use Rattle.minutes.proofs.Bits.{in_below}
use Rattle.rest.specs.Rest.{Stable}
use Rattle.rest.proofs.Families.{within_refl}
use Rattle.search.specs.declared.Answer.TheVariants.{Nothing, Spent}
use Rattle.search.specs.Search.{Problem, WellPosed, Way, rest_of, Alive, DeadEnd, Solves, Counted, Listed, FirstAfter, NextFloor, Finds}
use Rattle.search.specs.Theorems.{problem}
use Rattle.search.proofs.Living.{is_rest, rest_length, left_allowed, alive_solves}
use Rattle.worked_runs.specs.Example.{stubborn}
use Rattle.worked_runs.proofs.Stubborn.{stubborn_lawful}

abbrev q : Problem
q = problem stubborn (3 ∷ [])

below_two : (t : ℕ) → In t 3 → t < 2
below_two t h = in_below 2 3 t (omega arith) h

in_three : (t : ℕ) → t < 2 → In t 3
in_three zero h = refl
in_three (suc zero) h = refl
in_three (suc (suc t)) h = absurd (omega arith)

pub posed : WellPosed q
posed = record {
  laws = stubborn_lawful;
  relations = omega arith;
  reach = omega arith;
  least = omega arith;
  most = omega arith;
  some = omega arith;
  many = omega arith;
  minutes = elim [ zero ↦ λ t h. below_two t h | suc i ↦ λ t h. absurd (no_minute t h) ];
}

unsolved : (floor x : List ℕ) → Solves q floor x → ⊥
unsolved floor x s = false≢true (s.meets 0 (omega arith))

-- of one minute, the order is that of the minutes
after_at : (x : ℕ) (z : List ℕ) → Before (x ∷ []) z → x < at z 0
after_at x z b = go b.place b.in_x b.less
  where
    go : (k : ℕ) → k < 1 → at (x ∷ []) k < at z k → x < at z 0
    go zero h l = l
    go (suc k) h l = absurd (omega arith)

before_at : (z : List ℕ) (y : ℕ) → Before z (y ∷ []) → at z 0 < y
before_at z y b = go b.place b.in_y b.less
  where
    go : (k : ℕ) → k < 1 → at z k < at (y ∷ []) k → at z 0 < y
    go zero h l = l
    go (suc k) h l = absurd (omega arith)

is_before : (x z : List ℕ) → 0 < length x → 0 < length z → at x 0 < at z 0 → Before x z
is_before x z a b l = record { place = 0; in_x = a; in_y = b; same = λ j h. absurd (omega arith); less = l }

module _ (w : Way q) where
  root : (t : ℕ) → In t 3 → In t (at (rest_of q w []) 0)
  root t h = ((is_rest q posed w []).largest (3 ∷ []) stable (within_refl (3 ∷ []))).sub 0 t h
    where
      stable : Stable stubborn (3 ∷ [])
      stable zero h = refl
      stable (suc k) h = absurd (omega arith)

  root_alive : Alive q w []
  root_alive zero h = omega (arith, sub_le 3 (at (rest_of q w []) 0) root)
  root_alive (suc i) h = absurd (omega (arith, rest_length q posed w []))

  module _ (f : ℕ) (low : f < 2) (floor : List ℕ) (some : 0 < length floor) (is : at floor 0 ≡ f) where
    dead : (x : ℕ) → x < 2 → f ≤ x → DeadEnd q w floor (x ∷ [])
    dead x l k =
        let n : Before (x ∷ []) floor → ⊥ = λ b. omega (arith, after_at x floor b, is) in
        record {
          tried = record { some = omega arith; most = omega arith; alive = root_alive; left = root x (in_three x l); from_floor = n };
          dead = λ a. unsolved floor (x ∷ []) (alive_solves q posed w floor (x ∷ []) refl a n);
        }

    -- the minutes from the floor on, each once
    listed : Listed (Counted q w floor) (2 - f) (λ i. (f + i) ∷ [])
    listed = record {
      rising = λ i j h l. is_before _ _ (omega arith) (omega arith) (omega arith);
      holds = λ i h. record { dead_end = dead (f + i) (omega arith) (omega arith); before = λ x s. absurd (unsolved floor x s.solves) };
      all = every;
    }
      where
        every : (p : List ℕ) → Counted q w floor p → (i : ℕ) × (i < 2 - f) × ((f + i) ∷ [] ≡ p)
        every [] c = absurd (omega (arith, c.dead_end.tried.some))
        every (x ∷ y ∷ p) c = absurd (omega (arith, c.dead_end.tried.most))
        every (x ∷ []) c =
            let l : x < 2 = below_two x (left_allowed q posed w [] x c.dead_end.tried.left) in
            let k : f ≤ x = elim (cases_lt x f) [
              | inl u ↦ absurd (c.dead_end.tried.from_floor (is_before (x ∷ []) floor (omega arith) some (omega arith)))
              | inr u ↦ u
            ] in
            let e : f + (x - f) ≡ x = omega arith in
            (x - f, omega arith, ap (λ z. z ∷ []) e)

-- with budget 1 from minute 0: spent, and the next floor is minute 1
pub first_finds : (w : Way q) → Finds q w (0 ∷ []) 1 (Spent 1) (1 ∷ [])
first_finds w = record { number = 2; nth = λ i. (0 + i) ∷ []; listed = listed w 0 (omega arith) (0 ∷ []) (omega arith) refl; says = (refl, omega arith, next) }
  where
    minute_one : FirstAfter 2 1 (0 ∷ []) (1 ∷ [])
    minute_one = record {
      timetable = record { len = refl; minute = elim [ zero ↦ λ h. omega arith | suc i ↦ λ h. absurd (omega arith) ] };
      after = λ x t b. is_before x (1 ∷ []) (omega (arith, t.len)) (omega arith) (omega (arith, b.same 0 (omega arith)));
      first = λ z t a b. omega (
        arith,
        before_at z 1 b,
        after_at 0 z (a (0 ∷ [])
            (record { len = refl; minute = elim [ zero ↦ λ h. omega arith | suc i ↦ λ h. absurd (omega arith) ] })
            (record { shorter = omega arith; same = λ j h. refl })),
      );
    }

    next : NextFloor q (0 ∷ []) 1 (λ i. (0 + i) ∷ []) (1 ∷ [])
    next = record {
      given = λ e. absurd (omega arith);
      after = λ b e. let z : 0 ≡ 0 + b = omega arith in subst (λ k. FirstAfter 2 1 (k ∷ []) (1 ∷ [])) z minute_one;
    }

-- and from there: none, after one dead end
pub second_finds : (w : Way q) → Finds q w (1 ∷ 7 ∷ []) 1 (Nothing 1) []
second_finds w = record { number = 1; nth = λ i. (1 + i) ∷ []; listed = listed w 1 (omega arith) (1 ∷ 7 ∷ []) (omega arith) refl; says = (refl, omega arith, unsolved (1 ∷ 7 ∷ []), refl) }
