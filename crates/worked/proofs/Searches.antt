-- The examples of searches: computed, and so what a find answers.
use Rattle.std.proofs.Common.{◌≡◌, ℕ, zero, suc, ◌<◌, List, [], ◌∷◌, length, refl, arith}
use Rattle.minutes.specs.Minutes.{at, In}
use Rattle.minutes.proofs.Bits.{in_below}
use Rattle.minutes.proofs.Sets.{no_minute}
use Rattle.relations.specs.Meaning.{Meaning, Laws, size}
use Rattle.rest.specs.Rest.{Numbers}
use Rattle.spans.proofs.Lawful.{spans_lawful}
use Rattle.calls.specs.Calls.{Call}
use Rattle.calls.specs.Standing.{Takes}
use Rattle.search.specs.declared.Answer.{Answer}
use Rattle.search.specs.declared.Answer.TheVariants.{Found, Nothing, Spent}
use Rattle.search.specs.Search.{WellPosed, FloorOf}
use Rattle.search.specs.Theorems.{problem}
use Rattle.search.proofs.Living.{some_way}
use Rattle.search.proofs.Proved.{one_answer_only}
use Rattle.worked.specs.Examples.{ring_spans, ring}
use Rattle.worked.specs.Searches.{find_from, allowed_at, problem_at, Answered, zeros, tight_spans, tight, resuming, in_and_out, RingFound, TightNone, TightInALevel}
use Rattle.worked.proofs.Reference.{searched, answers}
use Rattle.worked.proofs.Meets.{searched_finds}

-- a list that settles every prefix of these examples
abbrev numbers : List ℕ
numbers = 0 ∷ 1 ∷ 2 ∷ 0 ∷ 1 ∷ []

-- three relations of period 10 that reach to event 3, with their laws
record Three (m : Meaning) : Type 0 where
  laws : Laws m
  three : size m ≡ 3
  reach : m.reach ≡ 3
  period : m.period ≡ 10

known : (m : Meaning) → Three m → Numbers m numbers
known m t zero h = omega (arith, t.three)
known m t (suc zero) h = omega (arith, t.three)
known m t (suc (suc zero)) h = omega (arith, t.three)
known m t (suc (suc (suc zero))) h = omega (arith, t.three)
known m t (suc (suc (suc (suc zero)))) h = omega (arith, t.three)
known m t (suc (suc (suc (suc (suc i))))) h = absurd (omega arith)

posed : (m : Meaning) → Three m → (s : ℕ) → s < 1024 → WellPosed (problem m (s ∷ 1023 ∷ 1023 ∷ []))
posed m t s l = record {
  laws = t.laws;
  relations = omega (arith, t.three);
  reach = omega (arith, t.reach);
  least = omega (arith, t.period);
  most = omega (arith, t.period);
  some = omega arith;
  many = omega arith;
  minutes = λ i n h. omega (arith, t.period, below i n h);
}
  where
    below : (i n : ℕ) → In n (at (s ∷ 1023 ∷ 1023 ∷ []) i) → n < 10
    below zero n h = in_below 10 s n l h
    below (suc zero) n h = in_below 10 1023 n (omega arith) h
    below (suc (suc zero)) n h = in_below 10 1023 n (omega arith) h
    below (suc (suc (suc i))) n h = absurd (no_minute n h)

from : (m : Meaning) → Three m → (s k : ℕ) → k < 10 → FloorOf (problem m (s ∷ 1023 ∷ 1023 ∷ [])) (k ∷ 0 ∷ 0 ∷ [])
from m t s k l = record { long = omega arith; minute = λ i h. omega (arith, t.period, low i h) }
  where
    low : (i : ℕ) → i < 3 → at (k ∷ 0 ∷ 0 ∷ []) i < 10
    low zero h = l
    low (suc zero) h = omega arith
    low (suc (suc zero)) h = omega arith
    low (suc (suc (suc i))) h = absurd (omega arith)

module _ (cs : List Call) (i : ℕ) (m : Meaning) (t : Three m) (floor : List ℕ) (budget : ℕ) (a : Answer) (x : List ℕ) where
  answered : Takes 10 3 cs i (find_from m floor budget) → WellPosed (problem_at cs i m) → FloorOf (problem_at cs i m) floor → length floor ≡ length (allowed_at cs i) →
      searched (problem_at cs i m) numbers budget 50 floor floor 0 0 ≡ answers a x → Answered cs i m floor budget a x
  answered takes p f e h =
      let q = problem_at cs i m in
      let finds = searched_finds q p floor numbers (known m t) f e budget 50 a x h in
      record {
        takes = takes;
        posed = p;
        floor_of = f;
        way = some_way q p;
        answer = record {
          finds = finds;
          word = λ way b y g. (one_answer_only q p way way floor budget b a y x g (finds way)).answer;
          written = λ way b y g. (one_answer_only q p way way floor budget b a y x g (finds way)).written;
        };
      }

ring_three : Three ring
ring_three = record { laws = spans_lawful 10 3 ring_spans refl; three = refl; reach = refl; period = refl }

tight_three : Three tight
tight_three = record { laws = spans_lawful 10 3 tight_spans refl; three = refl; reach = refl; period = refl }

pub ring_found : RingFound
ring_found = record {
  text = record { read = λ a b c. refl; filled = refl };
  found = λ budget. answered (find_from ring zeros budget ∷ []) 0 ring ring_three zeros budget (Found 0) (0 ∷ 3 ∷ 8 ∷ [])
      (record { inside = omega arith; is = refl; accepted = refl }) (posed ring ring_three 1023 (omega arith)) (from ring ring_three 1023 0 (omega arith)) refl refl;
}

pub tight_none : TightNone
tight_none = record {
  text = record { read = λ a b c. refl; filled = refl };
  none = answered (find_from tight zeros 10 ∷ []) 0 tight tight_three zeros 10 (Nothing 10) []
      (record { inside = omega arith; is = refl; accepted = refl }) (posed tight tight_three 1023 (omega arith)) (from tight tight_three 1023 0 (omega arith)) refl refl;
  spent = answered resuming 0 tight tight_three zeros 4 (Spent 4) (4 ∷ 0 ∷ 0 ∷ [])
      (record { inside = omega arith; is = refl; accepted = refl }) (posed tight tight_three 1023 (omega arith)) (from tight tight_three 1023 0 (omega arith)) refl refl;
  resumed = answered resuming 1 tight tight_three (4 ∷ 0 ∷ 0 ∷ []) 6 (Nothing 6) []
      (record { inside = omega arith; is = refl; accepted = refl }) (posed tight tight_three 1023 (omega arith)) (from tight tight_three 1023 4 (omega arith)) refl refl;
}

pub tight_in_a_level : TightInALevel
tight_in_a_level = record {
  opens = record { inside = omega arith; is = refl; accepted = refl };
  allows = record { inside = omega arith; is = refl; accepted = refl };
  family_within = refl;
  within = answered in_and_out 2 tight tight_three zeros 10 (Nothing 0) []
      (record { inside = omega arith; is = refl; accepted = refl }) (posed tight tight_three 1 (omega arith)) (from tight tight_three 1 0 (omega arith)) refl refl;
  shuts = record { inside = omega arith; is = refl; accepted = refl };
  family_after = refl;
  after = answered in_and_out 4 tight tight_three zeros 10 (Nothing 10) []
      (record { inside = omega arith; is = refl; accepted = refl }) (posed tight tight_three 1023 (omega arith)) (from tight tight_three 1023 0 (omega arith)) refl refl;
}
