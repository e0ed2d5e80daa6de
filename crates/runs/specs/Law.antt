-- The law over runs: what is true of every list of calls on a new plan of period T and E events, of what they replied, and of
-- the timetables that they wrote, E places for each call.
use Rattle.std.specs.Prelude.{◌≡◌, ℕ, ◌+◌, ◌*◌, ◌<◌, List, [], length, take, drop, Some, None, slice_index_or, Ok, Err}
use Rattle.refusals.specs.declared.Refusal.{Refusal}
use Rattle.relations.specs.Meaning.{Meaning, Laws}
use Rattle.rest.specs.Rest.{Left}
use Rattle.calls.specs.Calls.{Call, allow, open_level, shut_level, left, find, Ledger, family, refusal, ledger}
use Rattle.calls.specs.Standing.{call_at}
use Rattle.search.specs.declared.Answer.{Answer}
use Rattle.search.specs.declared.Answer.TheVariants.{Found, Nothing, Spent}
use Rattle.search.specs.Search.{Problem, Way}
use Rattle.search.specs.InWords.{EarliestOrNone, TheNumber}
use Rattle.search.specs.Theorems.{problem, SameMeaning, added, MustAnswer}
use Rattle.find.specs.Outcome.{Outcome}
use Rattle.runs.specs.Requests.{Reply}
use Rattle.runs.specs.declared.requests.Done.TheVariants.{Accepted, Minutes, Answered}

-- the places of call i among the timetables
abbrev pub places : ℕ → List ℕ → ℕ → List ℕ
places E timetables i = take E (drop (i * E) timetables)

-- the reply to call i, for i below the number of calls
abbrev pub reply_at : List Reply → ℕ → Reply
reply_at replies i = slice_index_or replies i (Ok Accepted)

-- what stands when call i comes: what the calls before it decide
abbrev pub stood : ℕ → ℕ → List Call → ℕ → Ledger
stood T E cs i = ledger T E (take i cs)

-- the allowed family when call i comes
abbrev pub allowed_at : ℕ → ℕ → List Call → ℕ → List ℕ
allowed_at T E cs i = family T E (stood T E cs i)

-- the reply to an accepted call, where l stands, and its places before and after: an allow, an open and a shut are accepted; a
-- left gives the event's set in the rest of the allowed family, which exists, or 0 where a set of that rest is empty; a find
-- gives its answer. Only a find writes.
abbrev pub Answers : ℕ → ℕ → Ledger → Call → List ℕ → List ℕ → Reply → Type 0
Answers T E l (allow e s) old new r = (r ≡ Ok Accepted) × (new ≡ old)
Answers T E l open_level old new r = (r ≡ Ok Accepted) × (new ≡ old)
Answers T E l shut_level old new r = (r ≡ Ok Accepted) × (new ≡ old)
Answers T E l (left m e w) old new r = (s : ℕ) × (r ≡ Ok (Minutes s)) × Left m (family T E l) e s × (new ≡ old)
Answers T E l (find m floor budget b w) old new r = (a : Answer) × (r ≡ Ok (Answered a)) × Outcome (problem m (family T E l)) floor budget old new a

-- the reply to a call, where l stands: refused exactly where a listed refusal applies, by the first that does, and then nothing
-- is written; otherwise the one reply that is defined
pub record RightReply (T E : ℕ) (l : Ledger) (c : Call) (old new : List ℕ) (r : Reply) : Type 0 where
  pub refused : (e : Refusal) → refusal T E l c ≡ Some e → r ≡ Err e
  pub refused_only : (e : Refusal) → r ≡ Err e → refusal T E l c ≡ Some e
  pub kept : (e : Refusal) → refusal T E l c ≡ Some e → new ≡ old
  pub accepted : refusal T E l c ≡ None → Answers T E l c old new r

-- each call has its reply, and no place beyond those of the calls is written
pub record RightReplies (T E : ℕ) (cs : List Call) (replies : List Reply) (old new : List ℕ) : Type 0 where
  pub each : (i : ℕ) → i < length cs → RightReply T E (stood T E cs i) (call_at cs i) (places E old i) (places E new i) (reply_at replies i)
  pub beyond : drop (length cs * E) new ≡ drop (length cs * E) old

-- call i is a find with this bank, floor and budget, and it answered a
pub record FindAt (cs : List Call) (replies : List Reply) (i : ℕ) (m : Meaning) (floor : List ℕ) (budget : ℕ) (a : Answer) : Type 0 where
  pub buffer : ℕ
  pub workspace : ℕ
  pub inside : i < length cs
  pub is : call_at cs i ≡ find m floor budget buffer workspace
  pub answered : reply_at replies i ≡ Ok (Answered a)

-- the list that a find wrote to its places: none wrote nothing
abbrev pub list_of : Answer → List ℕ → List ℕ
list_of (Found n) x = x
list_of (Nothing n) x = []
list_of (Spent n) x = x

-- a find from this floor with this budget, whether it was run or not, has this one answer and list, in whichever way it
-- narrows; and there is a way
pub record Determined (q : Problem) (floor : List ℕ) (budget : ℕ) (a : Answer) (x : List ℕ) : Type 0 where
  pub way : Way q
  pub must : MustAnswer q floor budget a x

-- resuming: find i was spent; find j, under the same allowed family and a bank of the same meaning, from a floor that begins
-- with what i wrote, answered a. Then any find under that family, with a bank of the same meaning, from a floor that begins as
-- that of i, with the budgets of i and j together, answers the word and the list of j with the numbers added. (However large
-- the budgets together; a find can be asked for up to 4,294,967,295.)
pub record Resumed (T E : ℕ) (cs : List Call) (replies : List Reply) (new : List ℕ) (i j : ℕ) : Type 0 where
  pub adds_up : (m n : Meaning) (first second : List ℕ) (b c k : ℕ) (a : Answer) →
      FindAt cs replies i m first b (Spent k) → FindAt cs replies j n second c a →
      SameMeaning m n → allowed_at T E cs i ≡ allowed_at T E cs j → take E second ≡ places E new i →
      (o : Meaning) (whole : List ℕ) → Laws o → SameMeaning m o → take E whole ≡ take E first →
      Determined (problem o (allowed_at T E cs i)) whole (b + c) (added b a) (list_of a (places E new j))

-- the law
pub record LawOverRuns (T E : ℕ) (cs : List Call) (replies : List Reply) (old new : List ℕ) : Type 0 where
  pub right : RightReplies T E cs replies old new
  pub earliest : (i : ℕ) (m : Meaning) (floor : List ℕ) (budget : ℕ) (a : Answer) → FindAt cs replies i m floor budget a →
      EarliestOrNone (problem m (allowed_at T E cs i)) floor a (list_of a (places E new i))
  pub way : (i : ℕ) (m : Meaning) (floor : List ℕ) (budget : ℕ) (a : Answer) → FindAt cs replies i m floor budget a →
      Way (problem m (allowed_at T E cs i))
  pub number : (i : ℕ) (m : Meaning) (floor : List ℕ) (budget : ℕ) (a : Answer) → FindAt cs replies i m floor budget a →
      (w : Way (problem m (allowed_at T E cs i))) → TheNumber (problem m (allowed_at T E cs i)) w floor budget a (list_of a (places E new i))
  pub resuming : (i j : ℕ) → Resumed T E cs replies new i j
