-- What the calls of a bank answer, by its meaning.
use Rattle.std.specs.Prelude.{◌≡◌, ℕ, Bool, true, false, cond, ◌&&◌, List, length, take, ◌≢◌, nat_le, nat_lt}
use Rattle.std.specs.List.{list_all}
use Rattle.relations.specs.Meaning.{Meaning, Relation, relation, size}

-- the meaning of a bank with this period, reach and relations
abbrev pub meant : ℕ → ℕ → List Relation → Meaning
meant T reach relations = record { period = T; reach = reach; relations = relations }

-- the limits: a number below the size and below 512, a list of reach to 256 places
abbrev pub in_limits : ℕ → ℕ → ℕ → ℕ → Bool
in_limits size reach k n = nat_lt k size && (nat_lt k 512 && (nat_le reach n && nat_le n 256))

-- each minute is below T
abbrev pub all_below : ℕ → List ℕ → Bool
all_below T minutes = list_all (λ m. nat_lt m T) minutes

-- what `holds` answers: within the limits, the minutes of events 1 to reach below the period, and the condition met
abbrev pub answer : Meaning → ℕ → List ℕ → Bool
answer m k x =
    in_limits (size m) m.reach k (length x) && (all_below m.period (take m.reach x) && (relation m k).condition x)

-- what `narrow` makes of the family f: within the limits its narrowing, and the answer says whether that is another
pub record Narrows (m : Meaning) (k : ℕ) (f g : List ℕ) (changed : Bool) : Type 0 where
  pub after : g ≡ cond (in_limits (size m) m.reach k (length f)) ((relation m k).narrowing f) f
  pub other : changed ≡ true → g ≢ f
  pub same : changed ≡ false → g ≡ f
