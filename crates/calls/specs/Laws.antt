-- Laws of lists of calls.
use Rattle.std.specs.Prelude.{◌≡◌, ℕ, suc, ◌+◌, ◌-◌, ◌<◌, ◌≤◌, Bool, ◌⊎◌, List, [], ◌∷◌, ◌++◌, length}
use Rattle.minutes.specs.Minutes.{In, at}
use Rattle.calls.specs.Calls.{Call, allow, open_level, shut_level, Standing, level, allowed, Ledger, family, entries_of, ledger}
use Rattle.calls.specs.Standing.{Accepts, OpenAt, Closes, Stands}

-- x is in the ledger
abbrev pub Among : Standing → Ledger → Type 0
Among x [] = ⊥
Among x (y ∷ l) = (x ≡ y) ⊎ Among x l

-- the ledger has the allows that stand and the levels that are open, and no others
pub record LedgerRight (T E : ℕ) (cs : List Call) : Type 0 where
  pub allows_only : (i e s : ℕ) (entry : Bool) → Among (allowed i e s entry) (ledger T E cs) → Stands T E cs i e s
  pub allows_all : (i e s : ℕ) → Stands T E cs i e s → (entry : Bool) × Among (allowed i e s entry) (ledger T E cs)
  pub levels_only : (p : ℕ) → Among (level p) (ledger T E cs) → OpenAt T E cs p (length cs)
  pub levels_all : (p : ℕ) → OpenAt T E cs p (length cs) → Among (level p) (ledger T E cs)

abbrev pub LedgersRight : Type 0
LedgersRight = (T E : ℕ) (cs : List Call) → LedgerRight T E cs

-- a minute is allowed an event exactly when it is below the period and in the set of every allow of the event that stands
pub record MinutesAllowed (T E : ℕ) (cs : List Call) (e m : ℕ) : Type 0 where
  pub below : In m (at (family T E (ledger T E cs)) (e - 1)) → m < T
  pub in_each : In m (at (family T E (ledger T E cs)) (e - 1)) → (i s : ℕ) → Stands T E cs i e s → In m s
  pub if_in_each : m < T → ((i s : ℕ) → Stands T E cs i e s → In m s) → In m (at (family T E (ledger T E cs)) (e - 1))

abbrev pub FamilyRight : Type 0
FamilyRight = (T E : ℕ) (cs : List Call) (e m : ℕ) → 1 ≤ e → e ≤ E → MinutesAllowed T E cs e m

-- an open, any calls, and the shut that closes its level: all that stood before stands again, and nothing else; so the
-- allowed family and the entries are as they were
abbrev pub ShutRestores : Type 0
ShutRestores = (T E : ℕ) (cs ds : List Call) →
    let all = cs ++ open_level ∷ (ds ++ shut_level ∷ []) in
    Closes T E all (suc (length cs + length ds)) (length cs) →
    ledger T E all ≡ ledger T E cs

-- two accepted allows leave the same allowed family in either order
abbrev pub EitherOrder : Type 0
EitherOrder = (T E : ℕ) (cs : List Call) (e s v t : ℕ) →
    Accepts T E cs (allow e s) → Accepts T E (cs ++ allow e s ∷ []) (allow v t) →
    Accepts T E cs (allow v t) → Accepts T E (cs ++ allow v t ∷ []) (allow e s) →
    family T E (ledger T E (cs ++ allow e s ∷ allow v t ∷ [])) ≡ family T E (ledger T E (cs ++ allow v t ∷ allow e s ∷ []))

-- an accepted allow given again is accepted, takes no minute away and is no entry
pub record TakesNothing (T E : ℕ) (cs : List Call) (e s : ℕ) : Type 0 where
  pub accepted : Accepts T E (cs ++ allow e s ∷ []) (allow e s)
  pub sets : family T E (ledger T E (cs ++ allow e s ∷ allow e s ∷ [])) ≡ family T E (ledger T E (cs ++ allow e s ∷ []))
  pub entries : entries_of (ledger T E (cs ++ allow e s ∷ allow e s ∷ [])) ≡ entries_of (ledger T E (cs ++ allow e s ∷ []))

abbrev pub AllowAgain : Type 0
AllowAgain = (T E : ℕ) (cs : List Call) (e s : ℕ) → Accepts T E cs (allow e s) → TakesNothing T E cs e s
