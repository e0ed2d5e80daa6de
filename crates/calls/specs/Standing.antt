-- Levels and standing allows in words: which call shuts which level, and which allows still stand, said of the accepted
-- calls alone and not of the ledger that the program's rule keeps.
use Rattle.std.specs.Prelude.{◌≡◌, ℕ, zero, suc, ◌<◌, ◌≤◌, ◌⊎◌, List, length, take, None, slice_index_or}
use Rattle.calls.specs.Calls.{Call, allow, open_level, shut_level, refusal, ledger}

-- call i of the list, for i below its length
abbrev pub call_at : List Call → ℕ → Call
call_at cs i = slice_index_or cs i open_level

-- a call is accepted after the calls cs
abbrev pub Accepts : ℕ → ℕ → List Call → Call → Type 0
Accepts T E cs c = refusal T E (ledger T E cs) c ≡ None

-- call i of the list is c, and it is accepted
pub record Takes (T E : ℕ) (cs : List Call) (i : ℕ) (c : Call) : Type 0 where
  pub inside : i < length cs
  pub is : call_at cs i ≡ c
  pub accepted : Accepts T E (take i cs) c

-- the level that call p opened is open when call i comes: the call before opened it; or it was open when that call came,
-- and that call, if it was a shut, shut a level opened later
abbrev pub OpenAt : ℕ → ℕ → List Call → ℕ → ℕ → Type 0
OpenAt T E cs p zero = ⊥
OpenAt T E cs p (suc i) =
    ((p ≡ i) × Takes T E cs i open_level)
    ⊎ (OpenAt T E cs p i × (Takes T E cs i shut_level → (q : ℕ) × (p < q) × OpenAt T E cs q i))

-- call j shuts the level that call p opened: of all open levels that one was opened last
pub record Closes (T E : ℕ) (cs : List Call) (j p : ℕ) : Type 0 where
  pub shuts : Takes T E cs j shut_level
  pub was_open : OpenAt T E cs p j
  pub last : (q : ℕ) → OpenAt T E cs q j → q ≤ p

-- call i, an allow, stands after all calls: it was accepted, and no later shut closed a level that was open at it
pub record Stands (T E : ℕ) (cs : List Call) (i e s : ℕ) : Type 0 where
  pub takes : Takes T E cs i (allow e s)
  pub kept : (j p : ℕ) → i < j → Closes T E cs j p → OpenAt T E cs p i → ⊥
