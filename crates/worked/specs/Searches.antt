-- Worked examples of searches: finds among the calls of a plan of period 10 and three events.
use Rattle.std.specs.Prelude.{◌≡◌, ℕ, List, [], ◌∷◌, take, Ok, codes}
use Prim.Native.String.{String}
use Rattle.records.specs.declared.Span.{Span}
use Rattle.reading.specs.Calls.{text_read}
use Rattle.relations.specs.Meaning.{Meaning}
use Rattle.table_banks.specs.Verdicts.{spans_verdict}
use Rattle.calls.specs.Calls.{Call, allow, open_level, shut_level, find, family, ledger}
use Rattle.calls.specs.Standing.{Takes}
use Rattle.search.specs.declared.Answer.{Answer}
use Rattle.search.specs.declared.Answer.TheVariants.{Found, Nothing, Spent}
use Rattle.search.specs.Search.{Problem, WellPosed, FloorOf, Way}
use Rattle.search.specs.Theorems.{problem, MustAnswer}
use Rattle.worked.specs.Examples.{span, bank_of, ring_spans, ring}

-- a find that brings a buffer for three minutes and a workspace of 4,096 words
abbrev pub find_from : Meaning → List ℕ → ℕ → Call
find_from bank floor budget = find bank floor budget 3 4096

-- the family that the calls before call i leave allowed
abbrev pub allowed_at : List Call → ℕ → List ℕ
allowed_at cs i = family 10 3 (ledger 10 3 (take i cs))

-- what a find of this bank searches as call i
abbrev pub problem_at : List Call → ℕ → Meaning → Problem
problem_at cs i bank = problem bank (allowed_at cs i)

-- call i is a find of this bank, from this floor and with this budget, and is accepted; the bank keeps its laws; there is a
-- way of narrowing, and in each the find has this one answer and writes this
pub record Answered (cs : List Call) (i : ℕ) (bank : Meaning) (floor : List ℕ) (budget : ℕ) (a : Answer) (written : List ℕ) : Type 0 where
  pub takes : Takes 10 3 cs i (find_from bank floor budget)
  pub posed : WellPosed (problem_at cs i bank)
  pub floor_of : FloorOf (problem_at cs i bank) floor
  pub way : Way (problem_at cs i bank)
  pub answer : MustAnswer (problem_at cs i bank) floor budget a written

-- a text is read into a table for three spans, whatever stood there: its period is 10, it has three events and these spans,
-- and a bank is made of them
pub record Read (text : String) (spans : List Span) : Type 0 where
  pub read : (a b c : Span) → text_read (a ∷ b ∷ c ∷ []) [] (codes text) ≡
      Ok (record { reading = record { period = 10; events = 3; spans = 3; journeys = 0 }; spans = spans; journeys = [] })
  pub filled : spans_verdict 10 3 3 spans ≡ Ok tt

-- the floor before all timetables
abbrev pub zeros : List ℕ
zeros = 0 ∷ 0 ∷ 0 ∷ []

-- the ring has a timetable at minutes 0, 3 and 8; none is earlier, and no dead end comes before it, so that every budget will do
pub record RingFound : Type 0 where
  pub text : Read "T;10;3\n1;1;2;3;5;1\n2;2;3;3;5;1\n3;3;1;1;2;1\n" ring_spans
  pub found : (budget : ℕ) → Answered (find_from ring zeros budget ∷ []) 0 ring zeros budget (Found 0) (0 ∷ 3 ∷ 8 ∷ [])

-- the same events with three minutes between each and the next: round the ring that is 9 minutes, and no timetable meets it
abbrev pub tight_spans : List Span
tight_spans = span 7 1 1 2 3 3 ∷ span 19 2 2 3 3 3 ∷ span 31 3 3 1 3 3 ∷ []

abbrev pub tight : Meaning
tight = bank_of tight_spans

-- two finds, the second from the floor that the first writes
abbrev pub resuming : List Call
resuming = find_from tight zeros 4 ∷ find_from tight (4 ∷ 0 ∷ 0 ∷ []) 6 ∷ []

-- each of the ten minutes of event 1 is a dead end; a budget of 4 is spent after minute 3, and the six others are left
pub record TightNone : Type 0 where
  pub text : Read "T;10;3\n1;1;2;3;3;1\n2;2;3;3;3;1\n3;3;1;3;3;1\n" tight_spans
  pub none : Answered (find_from tight zeros 10 ∷ []) 0 tight zeros 10 (Nothing 10) []
  pub spent : Answered resuming 0 tight zeros 4 (Spent 4) (4 ∷ 0 ∷ 0 ∷ [])
  pub resumed : Answered resuming 1 tight (4 ∷ 0 ∷ 0 ∷ []) 6 (Nothing 6) []

-- in a level event 1 is allowed minute 0 only; a find there, and one after the shut
abbrev pub in_and_out : List Call
in_and_out = open_level ∷ allow 1 1 ∷ find_from tight zeros 10 ∷ shut_level ∷ find_from tight zeros 10 ∷ []

-- in the level the allowed family itself narrows to nothing, and that is no dead end; after the shut all is as before
pub record TightInALevel : Type 0 where
  pub opens : Takes 10 3 in_and_out 0 open_level
  pub allows : Takes 10 3 in_and_out 1 (allow 1 1)
  pub family_within : allowed_at in_and_out 2 ≡ 1 ∷ 1023 ∷ 1023 ∷ []
  pub within : Answered in_and_out 2 tight zeros 10 (Nothing 0) []
  pub shuts : Takes 10 3 in_and_out 3 shut_level
  pub family_after : allowed_at in_and_out 4 ≡ 1023 ∷ 1023 ∷ 1023 ∷ []
  pub after : Answered in_and_out 4 tight zeros 10 (Nothing 10) []
