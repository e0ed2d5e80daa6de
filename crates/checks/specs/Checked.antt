-- What `check` answers.
use Rattle.std.specs.Prelude.{◌≡◌, ℕ, suc, ◌<◌, Bool, true, false, cond, ◌&&◌, List, [], ◌∷◌, length, take, Some, None, Ok, Err, Option, Result, nat_le}
use Rattle.refusals.specs.declared.Refusal.{Refusal}
use Rattle.refusals.specs.declared.Refusal.TheVariants.{Short, Range, Bank}
use Rattle.relations.specs.Meaning.{Meaning, Relation, relation, size}
use Rattle.bank.specs.Calls.{all_below}

-- the lowest number of a relation that does not hold of x, counted from k
abbrev pub lowest : List Relation → ℕ → List ℕ → Option ℕ
lowest [] k x = None
lowest (r ∷ rs) k x = cond (r.condition x) (lowest rs (suc k) x) (Some k)

-- a bank that is not refused: at most 512 relations, a period from 2 to 64, a reach of at most 256
abbrev pub fit : Meaning → Bool
fit m = nat_le (size m) 512 && (nat_le 2 m.period && (nat_le m.period 64 && nat_le m.reach 256))

-- the refusals Bank, Short and Range, in this order; else the lowest relation that does not hold of the first reach minutes
abbrev pub checked : Meaning → List ℕ → Result (Option ℕ) Refusal
checked m x =
    cond (fit m)
    (cond (nat_le m.reach (length x))
    (cond (all_below m.period (take m.reach x))
    (Ok (lowest m.relations 0 (take m.reach x)))
    (Err Range))
    (Err Short))
    (Err Bank)

-- what is found: none exactly where each relation holds of x, else the lowest that does not
pub record LowestFailing (m : Meaning) (x : List ℕ) (found : Option ℕ) : Type 0 where
  pub none : found ≡ None → (k : ℕ) → k < size m → (relation m k).condition x ≡ true
  pub every : ((k : ℕ) → k < size m → (relation m k).condition x ≡ true) → found ≡ None
  pub in_size : (k : ℕ) → found ≡ Some k → k < size m
  pub fails : (k : ℕ) → found ≡ Some k → (relation m k).condition x ≡ false
  pub first : (k : ℕ) → found ≡ Some k → (j : ℕ) → j < k → (relation m j).condition x ≡ true
