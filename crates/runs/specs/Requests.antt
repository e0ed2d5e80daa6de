-- The calls that a list of requests makes, and what they reply.
use Rattle.std.specs.Prelude.{ℕ, ◌*◌, cond, ◌||◌, List, map, length, Some, None, Ok, Err, Option, Result, nat_lt}
use Rattle.refusals.specs.declared.Refusal.{Refusal}
use Rattle.refusals.specs.declared.Refusal.TheVariants.{Short}
use Rattle.relations.specs.Meaning.{Meaning}
use Rattle.calls.specs.Calls.{Call, allow, open_level, shut_level, left, find, or_else}
use Rattle.settle.specs.Workspace.{cleared}
use Rattle.plan.specs.Contents.{make_refusal}
use Rattle.search.specs.declared.Answer.{Answer}
use Rattle.runs.specs.declared.requests.Action.{Action}
use Rattle.runs.specs.declared.requests.Action.TheVariants.{Allow, Open, Shut, Left, Find}
use Rattle.runs.specs.declared.requests.Request.{Request}
use Rattle.runs.specs.declared.requests.Done.{Done}
use Rattle.runs.specs.declared.requests.Done.TheVariants.{Accepted, Minutes, Answered}

-- what a call replies: the first refusal that applies, or what it has done
abbrev pub Reply : Type 0
Reply = Result Done Refusal

-- the call that is asked for, with a bank of this meaning, this floor, a buffer of E places and a workspace of w numbers
abbrev pub asked : Meaning → List ℕ → (E w : ℕ) → Action → Call
asked m floor E w (Allow e s) = allow e s
asked m floor E w Open = open_level
asked m floor E w Shut = shut_level
asked m floor E w (Left e) = left m e w
asked m floor E w (Find budget) = find m floor budget E w

abbrev pub call_of : {B : Type 0} → (B → Meaning) → (E w : ℕ) → Request B → Call
call_of meaning E w r = asked (meaning r.bank.now) r.floor.now E w r.action

-- the calls of a list of requests, where each bank has its meaning
abbrev pub calls_of : {B : Type 0} → (B → Meaning) → (E w : ℕ) → List (Request B) → List Call
calls_of meaning E w rs = map (call_of meaning E w) rs

-- the first refusal, or else the second
abbrev pub or_then : Option Refusal → Option Refusal → Option Refusal
or_then (Some e) x = Some e
or_then None x = x

-- the refusal of a replay of n requests: Range where the plan cannot be made, Short where there are fewer than n places for
-- replies, or fewer than E for the timetable of each request
abbrev pub replay_refusal : (T E n replies timetables : ℕ) → Option Refusal
replay_refusal T E n replies timetables =
    or_then (make_refusal T E) (or_else (nat_lt replies n || nat_lt timetables (n * E)) Short None)

-- a workspace of 4,096 numbers or more has 0 at the first 4,096; a shorter one is as it was
abbrev pub wiped : List ℕ → List ℕ
wiped w = cond (nat_lt (length w) 4096) w (cleared w)

abbrev pub of_change : Result (Unit {0}) Refusal → Reply
of_change (Ok u) = Ok Accepted
of_change (Err e) = Err e

abbrev pub of_left : Result ℕ Refusal → Reply
of_left (Ok s) = Ok (Minutes s)
of_left (Err e) = Err e

abbrev pub of_find : Result Answer Refusal → Reply
of_find (Ok a) = Ok (Answered a)
of_find (Err e) = Err e
