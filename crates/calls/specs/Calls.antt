-- What the calls since a plan was made decide: which allows stand, the allowed family, the levels, the entries, and which
-- calls are refused. All of it is said of the list of calls alone. T is the plan's period and E the number of its events.
use Rattle.std.specs.Prelude.{ℕ, zero, suc, ◌-◌, ◌^◌, Bool, cond, not, ◌&&◌, ◌||◌, List, [], ◌∷◌, length, take, Some, None, Option, ◌==◌, bit_and, nat_le, nat_lt}
use Rattle.refusals.specs.declared.Refusal.{Refusal}
use Rattle.refusals.specs.declared.Refusal.TheVariants.{Short, Range, Event, Full, Level, Bank}
use Rattle.minutes.specs.Minutes.{at}
use Rattle.relations.specs.Meaning.{Meaning, size}
use Rattle.bank.specs.Calls.{all_below}

-- a call, with all that decides its refusal and its answer: a bank by its meaning, a buffer and a workspace by their lengths
pub data Call : Type 0 where
  allow : (event set : ℕ) → Call
  open_level : Call
  shut_level : Call
  left : (bank : Meaning) (event workspace : ℕ) → Call
  find : (bank : Meaning) (floor : List ℕ) (budget buffer workspace : ℕ) → Call

-- what stands: a level that is open, and an accepted allow that was not taken back, each with the number of its call (from 0);
-- an allow is an entry where it took away a minute while a level was open
pub data Standing : Type 0 where
  level : (call : ℕ) → Standing
  allowed : (call event set : ℕ) (entry : Bool) → Standing

-- a ledger lists what stands, the latest first
abbrev pub Ledger : Type 0
Ledger = List Standing

-- the ledger without the level opened last, and without what came after it
abbrev pub closed : Ledger → Ledger
closed [] = []
closed (level c ∷ l) = l
closed (allowed c e s n ∷ l) = closed l

abbrev pub levels_of : Ledger → ℕ
levels_of [] = 0
levels_of (level c ∷ l) = suc (levels_of l)
levels_of (allowed c e s n ∷ l) = levels_of l

abbrev pub entries_of : Ledger → ℕ
entries_of [] = 0
entries_of (level c ∷ l) = entries_of l
entries_of (allowed c e s n ∷ l) = cond n (suc (entries_of l)) (entries_of l)

-- the minutes of the period that are in every set that stands for the event
abbrev pub allowed_set : ℕ → Ledger → ℕ → ℕ
allowed_set T [] v = 2 ^ T - 1
allowed_set T (level c ∷ l) v = allowed_set T l v
allowed_set T (allowed c e s n ∷ l) v = cond (e == v) (bit_and (allowed_set T l v) s) (allowed_set T l v)

-- the allowed sets of n events, from event v on
abbrev pub allowed_from : ℕ → Ledger → ℕ → ℕ → List ℕ
allowed_from T l v zero = []
allowed_from T l v (suc n) = allowed_set T l v ∷ allowed_from T l (suc v) n

-- the allowed family
abbrev pub family : ℕ → ℕ → Ledger → List ℕ
family T E l = allowed_from T l 1 E

-- to cut the set `old` to `set` is an entry: it takes away a minute while a level is open
abbrev pub is_entry : ℕ → ℕ → ℕ → Bool
is_entry levels old set = nat_lt 0 levels && not ((bit_and old set) == old)

-- the refusal by this test, or else by those after it
abbrev pub or_else : Bool → Refusal → Option Refusal → Option Refusal
or_else test r others = cond test (Some r) others

-- the event is none of 1 to E
abbrev pub no_event : ℕ → ℕ → Bool
no_event E e = e == 0 || nat_lt E e

-- the bank is too large for a plan of period T and E events, or does not suit it
abbrev pub bank_unfit : ℕ → ℕ → Meaning → Bool
bank_unfit T E m = nat_lt 512 (size m) || (not (m.period == T) || nat_lt E m.reach)

-- the refusal of an allow, where its event has the set `old` and so many levels and entries are
abbrev pub allow_refusal : (T E old levels entries event set : ℕ) → Option Refusal
allow_refusal T E old levels entries event set =
    or_else (nat_le (2 ^ T) set) Range (or_else (no_event E event) Event (or_else (is_entry levels old set && nat_le 1024 entries) Full None))

abbrev pub open_refusal : ℕ → Option Refusal
open_refusal levels = or_else (nat_le 16 levels) Level None

abbrev pub shut_refusal : ℕ → Option Refusal
shut_refusal levels = or_else (levels == 0) Level None

abbrev pub left_refusal : ℕ → ℕ → Meaning → ℕ → ℕ → Option Refusal
left_refusal T E m event workspace = or_else (nat_lt workspace 4096) Short (or_else (no_event E event) Event (or_else (bank_unfit T E m) Bank None))

abbrev pub find_refusal : ℕ → ℕ → Meaning → List ℕ → ℕ → ℕ → Option Refusal
find_refusal T E m floor buffer workspace =
    or_else (nat_lt (length floor) E || (nat_lt buffer E || nat_lt workspace 4096)) Short
    (or_else (not (all_below T (take E floor))) Range (or_else (bank_unfit T E m) Bank None))

-- the first refusal that applies to a call, where l stands
abbrev pub refusal : ℕ → ℕ → Ledger → Call → Option Refusal
refusal T E l (allow e s) = allow_refusal T E (at (family T E l) (e - 1)) (levels_of l) (entries_of l) e s
refusal T E l open_level = open_refusal (levels_of l)
refusal T E l shut_level = shut_refusal (levels_of l)
refusal T E l (left m e workspace) = left_refusal T E m e workspace
refusal T E l (find m floor budget buffer workspace) = find_refusal T E m floor buffer workspace

-- what stands after an accepted call, number n
abbrev pub done : ℕ → ℕ → ℕ → Ledger → Call → Ledger
done T E n l (allow e s) = allowed n e s (is_entry (levels_of l) (at (family T E l) (e - 1)) s) ∷ l
done T E n l open_level = level n ∷ l
done T E n l shut_level = closed l
done T E n l (left m e workspace) = l
done T E n l (find m floor budget buffer workspace) = l

-- where there is a refusal nothing has changed
abbrev pub unless_refused : {A : Type 0} → Option Refusal → A → A → A
unless_refused None new old = new
unless_refused (Some r) new old = old

abbrev pub step : ℕ → ℕ → ℕ → Ledger → Call → Ledger
step T E n l c = unless_refused (refusal T E l c) (done T E n l c) l

-- what stands after further calls, the first of them number n
abbrev pub after : ℕ → ℕ → ℕ → Ledger → List Call → Ledger
after T E n l [] = l
after T E n l (c ∷ cs) = after T E (suc n) (step T E n l c) cs

-- what stands after the calls since the plan was made
abbrev pub ledger : ℕ → ℕ → List Call → Ledger
ledger T E cs = after T E 0 [] cs
