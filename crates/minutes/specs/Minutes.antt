-- Minutes, minute sets, families and timetables.
--
-- A minute set is a number: the bit of value 2 ^ m stands for minute m. A family is a list of minute sets, one for each
-- event, and a timetable a list of minutes, one for each event; event e stands at place e - 1 of either.
use Rattle.std.specs.Prelude.{◌≡◌, ℕ, ◌/◌, ◌%◌, ◌^◌, ◌<◌, List, map, length, slice_index}

-- minute m is in the set s
abbrev pub In : ℕ → ℕ → Type 0
In m s = s / 2 ^ m % 2 ≡ 1

-- each minute of a is one of b
abbrev pub Sub : ℕ → ℕ → Type 0
Sub a b = (m : ℕ) → In m a → In m b

-- what stands at place i: a minute of a timetable, a set of a family
abbrev pub at : List ℕ → ℕ → ℕ
at f i = slice_index f i

-- the family f is contained in g, set by set
pub record Within (f g : List ℕ) : Type 0 where
  pub len : length f ≡ length g
  pub sub : (i : ℕ) → Sub (at f i) (at g i)

-- a timetable of E events and period T
pub record Timetable (T E : ℕ) (x : List ℕ) : Type 0 where
  pub len : length x ≡ E
  pub minute : (i : ℕ) → i < E → at x i < T

-- the timetable x lies in the family f: each of its minutes is in the set of its event
pub record Lies (x f : List ℕ) : Type 0 where
  pub len : length x ≡ length f
  pub each : (i : ℕ) → i < length x → In (at x i) (at f i)

-- no set of the family is empty
abbrev pub NoneEmpty : List ℕ → Type 0
NoneEmpty f = (i : ℕ) → i < length f → 0 < at f i

-- each set of the family is a 64-bit number
abbrev pub Words : List ℕ → Type 0
Words f = (i : ℕ) → at f i < 2 ^ 64

-- the family whose sets have the timetable's one minute each
abbrev pub single : List ℕ → List ℕ
single x = map (λ m. 2 ^ m) x

-- x is before y: it has the smaller minute at the first event of both where they differ
pub record Before (x y : List ℕ) : Type 0 where
  pub place : ℕ
  pub in_x : place < length x
  pub in_y : place < length y
  pub same : (j : ℕ) → j < place → at x j ≡ at y j
  pub less : at x place < at y place
