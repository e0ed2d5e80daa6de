-- The list of the example, and the law over it.
use Rattle.std.proofs.Common.{◌≡◌, ℕ, zero, suc, ◌<◌, List, [], ◌∷◌, length, refl, subst, arith, Ok}
use Rattle.relations.specs.Meaning.{Meaning, Laws}
use Rattle.calls.specs.Calls.{find}
use Rattle.calls.specs.Standing.{call_at}
use Rattle.search.specs.declared.Answer.TheVariants.{Nothing, Spent}
use Rattle.search.specs.Search.{Way}
use Rattle.search.specs.Theorems.{problem, SameMeaning}
use Rattle.search.proofs.Living.{some_way}
use Rattle.search.proofs.Proved.{earliest_or_none, the_number}
use Rattle.find.specs.Outcome.{Outcome}
use Rattle.runs.specs.declared.requests.Done.TheVariants.{Answered}
use Rattle.runs.specs.Law.{places, stood, reply_at, RightReply, FindAt, LawOverRuns}
use Rattle.runs.proofs.Calling.{right_accepted}
use Rattle.runs.proofs.Holding.{law_holds}
use Rattle.worked_runs.specs.Example.{stubborn, the_calls, the_replies, before, afterwards, WorkedRun}
use Rattle.worked_runs.proofs.Stubborn.{stubborn_lawful}
use Rattle.worked_runs.proofs.Trying.{posed, first_finds, second_finds}

way : Way (problem stubborn (3 ∷ []))
way = some_way (problem stubborn (3 ∷ [])) posed

first_outcome : Outcome (problem stubborn (3 ∷ [])) (0 ∷ []) 1 (0 ∷ []) (1 ∷ []) (Spent 1)
first_outcome = record {
  written = 1 ∷ [];
  buffer = refl;
  beyond = refl;
  way = way;
  finds = first_finds;
  earliest = earliest_or_none _ way _ _ _ _ (first_finds way);
  number = λ w. the_number _ w _ _ _ _ (first_finds w);
}

second_outcome : Outcome (problem stubborn (3 ∷ [])) (1 ∷ 7 ∷ []) 1 (0 ∷ []) (0 ∷ []) (Nothing 1)
second_outcome = record {
  written = [];
  buffer = refl;
  beyond = refl;
  way = way;
  finds = second_finds;
  earliest = earliest_or_none _ way _ _ _ _ (second_finds way);
  number = λ w. the_number _ w _ _ _ _ (second_finds w);
}

each : (i : ℕ) → i < length the_calls → RightReply 2 1 (stood 2 1 the_calls i) (call_at the_calls i) (places 1 before i) (places 1 afterwards i) (reply_at the_replies i)
each zero h = right_accepted 2 1 [] (find stubborn (0 ∷ []) 1 1 4096) (0 ∷ []) (1 ∷ []) (Ok (Answered (Spent 1))) refl (λ g u. let z : ◌≡◌ {A = ℕ} 0 1 = cc in omega arith) (Spent 1, refl, first_outcome)
each (suc zero) h = right_accepted 2 1 [] (find stubborn (1 ∷ 7 ∷ []) 1 1 4096) (0 ∷ []) (0 ∷ []) (Ok (Answered (Nothing 1))) refl (λ g u. let z : ◌≡◌ {A = ℕ} 0 1 = cc in omega arith) (Nothing 1, refl, second_outcome)
each (suc (suc i)) h = absurd (omega arith)

lawful : (i : ℕ) → i < length the_calls → (m : Meaning) (floor : List ℕ) (b n w : ℕ) → call_at the_calls i ≡ find m floor b n w → Laws m
lawful zero h m floor b n w e = let z : stubborn ≡ m = cc in subst Laws z stubborn_lawful
lawful (suc zero) h m floor b n w e = let z : stubborn ≡ m = cc in subst Laws z stubborn_lawful
lawful (suc (suc i)) h m floor b n w e = absurd (omega arith)

law : LawOverRuns 2 1 the_calls the_replies before afterwards
law = law_holds 2 1 (omega arith) (omega arith) (omega arith) (omega arith) the_calls the_replies before afterwards (omega arith) lawful (record { each = each; beyond = refl })

same : SameMeaning stubborn stubborn
same = record { period = refl; reach = refl; number = refl; conditions = λ k h x l t. refl; narrowings = λ k h f s. refl }

first : FindAt the_calls the_replies 0 stubborn (0 ∷ []) 1 (Spent 1)
first = record { buffer = 1; workspace = 4096; inside = omega arith; is = refl; answered = refl }

second : FindAt the_calls the_replies 1 stubborn (1 ∷ 7 ∷ []) 1 (Nothing 1)
second = record { buffer = 1; workspace = 4096; inside = omega arith; is = refl; answered = refl }

pub worked_run : WorkedRun
worked_run = record {
  laws = stubborn_lawful;
  way = way;
  law = law;
  first = first;
  second = second;
  same = same;
  level = refl;
  from = refl;
  both = (law.resuming 0 1).adds_up stubborn stubborn (0 ∷ []) (1 ∷ 7 ∷ []) 1 1 1 (Nothing 1) first second same refl refl stubborn (0 ∷ []) stubborn_lawful same refl;
}
