-- What a journey leaves of the sets of its chain, by the least lengths of the ways that lead to each minute and on from it.
use Rattle.std.specs.Prelude.{◌≡◌, ℕ, zero, suc, ◌+◌, ◌-◌, ◌<◌, min, Bool, true, false, cond, ◌&&◌, List, [], ◌∷◌, map, length, ◌≢◌, nat_le}
use Rattle.minutes.specs.Minutes.{at}
use Rattle.minutes.specs.Differences.{gap}
use Rattle.relations.specs.ExactNarrowing.{has, those, of}

-- the length where no way leads: longer than any cap
abbrev pub no_way : ℕ
no_way = 1000

-- the least of g below n, at most `no_way`
abbrev pub least : ℕ → (ℕ → ℕ) → ℕ
least zero g = no_way
least (suc n) g = min (least n g) (g n)

-- the least length to minute b, where F has the lengths to minutes before
abbrev pub ahead : ℕ → (ℕ → ℕ) → ℕ → ℕ
ahead T F b = least T (λ a. F a + gap T a b)

-- the same to a minute of set s alone
abbrev pub onward : ℕ → (ℕ → ℕ) → ℕ → ℕ → ℕ
onward T F s b = cond (has b s) (ahead T F b) no_way

-- the least length from minute a on by a minute of set s, where N has the lengths on from its minutes
abbrev pub behind : ℕ → (ℕ → ℕ) → ℕ → ℕ → ℕ
behind T N s a = least T (λ b. cond (has b s) (gap T a b + N b) no_way)

-- the least length from minute a on through the sets
abbrev pub to_go : ℕ → List ℕ → ℕ → ℕ
to_go T [] a = 0
to_go T (s ∷ ss) a = behind T (to_go T ss) s a

-- what is left of each set: the minutes by which a way within the cap leads
abbrev pub swept : ℕ → ℕ → (ℕ → ℕ) → List ℕ → List ℕ
swept T cap F [] = []
swept T cap F (s ∷ ss) = those T (λ m. has m s && nat_le (onward T F s m + to_go T ss m) cap) ∷ swept T cap (onward T F s) ss

-- a row has g's value at each minute below T
pub record Holds (T : ℕ) (g : ℕ → ℕ) (row : List ℕ) : Type 0 where
  pub value : (m : ℕ) → m < T → at row m ≡ g m

-- the sets stand at the events of the chain, the others are as before, and whether one changed
pub record Put (chain sets before after : List ℕ) (changed : Bool) : Type 0 where
  pub len : length after ≡ length before
  pub here : (i : ℕ) → i < length chain → at after (at chain i - 1) ≡ at sets i
  pub other : (p : ℕ) → ((i : ℕ) → i < length chain → at chain i ≢ suc p) → at after p ≡ at before p
  pub moved : changed ≡ true → (i : ℕ) × (i < length chain) × (at sets i ≢ at before (at chain i - 1))
  pub still : changed ≡ false → (i : ℕ) → i < length chain → at sets i ≡ at before (at chain i - 1)

-- the sets of the chain's events are swept, and the row has the least lengths through them
pub record Swept (T cap : ℕ) (fore chain before after row : List ℕ) (changed : Bool) : Type 0 where
  pub put : Put chain (swept T cap (at fore) (map (of before) chain)) before after changed
  pub through : Holds T (to_go T (map (of before) chain)) row
