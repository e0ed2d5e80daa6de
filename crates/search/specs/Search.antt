-- The search for the earliest timetable, as a relation between a problem, a floor, a budget, an answer and what is written.
--
-- It places the events one after another, at each the minutes in rising order. It goes back where narrowing leaves an event
-- no minute: that is a dead end. Its number is the count of dead ends before the timetable that it seeks.
use Rattle.std.specs.Prelude.{◌≡◌, ℕ, suc, ◌-◌, ◌*◌, ◌/◌, ◌%◌, ◌^◌, ◌<◌, ◌≤◌, ◌⊎◌, List, [], ◌∷◌, length, take}
use Rattle.minutes.specs.Minutes.{In, at, Timetable, Lies, NoneEmpty, Before}
use Rattle.relations.specs.Meaning.{Meaning, Laws, size}
use Rattle.rest.specs.Rest.{Stable, narrowed, Numbers, Meets}
use Rattle.search.specs.declared.Answer.{Answer}
use Rattle.search.specs.declared.Answer.TheVariants.{Found, Nothing, Spent}

-- what is searched: the meaning of a bank, and the allowed family with a set for each event
pub record Problem : Type 0 where
  pub meaning : Meaning
  pub allowed : List ℕ

abbrev pub events : Problem → ℕ
events q = length q.allowed

-- a problem that a find accepts: at most 512 relations that keep their laws and do not reach beyond the events, a period of
-- 2 to 64, 1 to 256 events, and no allowed minute outside the period
pub record WellPosed (q : Problem) : Type 0 where
  pub laws : Laws q.meaning
  pub relations : size q.meaning ≤ 512
  pub reach : q.meaning.reach ≤ events q
  pub least : 2 ≤ q.meaning.period
  pub most : q.meaning.period ≤ 64
  pub some : 1 ≤ events q
  pub many : events q ≤ 256
  pub minutes : (i m : ℕ) → In m (at q.allowed i) → m < q.meaning.period

-- a floor that a find accepts: a minute of the period for each event; what stands behind these does not count
pub record FloorOf (q : Problem) (floor : List ℕ) : Type 0 where
  pub long : events q ≤ length floor
  pub minute : (i : ℕ) → i < events q → at floor i < q.meaning.period

-- A prefix is a list of minutes, for as many of the first events.

-- x begins with the prefix p
pub record Begins (p x : List ℕ) : Type 0 where
  pub shorter : length p ≤ length x
  pub same : (j : ℕ) → j < length p → at p j ≡ at x j

-- minute m alone where the set s has it, or no minute
abbrev pub only : ℕ → ℕ → ℕ
only m s = s / 2 ^ m % 2 * 2 ^ m

-- the family in which each event of the prefix keeps only its minute
abbrev pub held : List ℕ → List ℕ → List ℕ
held [] f = f
held (m ∷ p) [] = []
held (m ∷ p) (s ∷ f) = only m s ∷ held p f

-- a way of narrowing: for each prefix, a list of relation numbers that ends in a stable family
pub record Way (q : Problem) : Type 0 where
  pub numbers : List ℕ → List ℕ
  pub known : (p : List ℕ) → Numbers q.meaning (numbers p)
  pub settles : (p : List ℕ) → Stable q.meaning (narrowed q.meaning (numbers p) (held p q.allowed))

-- the rest of a prefix: of the allowed family, with the prefix's events held to their minutes
abbrev pub rest_of : (q : Problem) → Way q → List ℕ → List ℕ
rest_of q way p = narrowed q.meaning (way.numbers p) (held p q.allowed)

-- a prefix is alive when no set of its rest is empty
abbrev pub Alive : (q : Problem) → Way q → List ℕ → Type 0
Alive q way p = NoneEmpty (rest_of q way p)

-- a prefix without its last minute
abbrev pub front : List ℕ → List ℕ
front p = take (length p - 1) p

-- a prefix is tried when the prefix without its last minute is alive and leaves that minute to its event, and it is not
-- before the floor; so the empty prefix is never tried
pub record Tried (q : Problem) (way : Way q) (floor p : List ℕ) : Type 0 where
  pub some : 0 < length p
  pub most : length p ≤ events q
  pub alive : Alive q way (front p)
  pub left : In (at p (length p - 1)) (at (rest_of q way (front p)) (length p - 1))
  pub from_floor : Before p floor → ⊥

-- a dead end is a tried prefix that is not alive
pub record DeadEnd (q : Problem) (way : Way q) (floor p : List ℕ) : Type 0 where
  pub tried : Tried q way floor p
  pub dead : Alive q way p → ⊥

-- x is a timetable from the floor on that lies in the allowed family and meets every relation
pub record Solves (q : Problem) (floor x : List ℕ) : Type 0 where
  pub timetable : Timetable q.meaning.period (events q) x
  pub from_floor : Before x floor → ⊥
  pub allowed : Lies x q.allowed
  pub meets : Meets q.meaning x

-- the timetable sought: the earliest of these, every other being later
pub record Sought (q : Problem) (floor x : List ℕ) : Type 0 where
  pub solves : Solves q floor x
  pub earliest : (y : List ℕ) → Solves q floor y → (y ≡ x) ⊎ Before x y

-- there is none
abbrev pub Unsolved : Problem → List ℕ → Type 0
Unsolved q floor = (x : List ℕ) → Solves q floor x → ⊥

-- the dead ends that count: those before the timetable sought, or all where there is none
pub record Counted (q : Problem) (way : Way q) (floor p : List ℕ) : Type 0 where
  pub dead_end : DeadEnd q way floor p
  pub before : (x : List ℕ) → Sought q floor x → Before p x

-- the prefixes of which P holds, earliest first, each exactly once, are nth 0 to nth (n - 1)
pub record Listed (P : List ℕ → Type 0) (n : ℕ) (nth : ℕ → List ℕ) : Type 0 where
  pub rising : (i j : ℕ) → i < j → j < n → Before (nth i) (nth j)
  pub holds : (i : ℕ) → i < n → P (nth i)
  pub all : (p : List ℕ) → P p → (i : ℕ) × (i < n) × (nth i ≡ p)

-- y is the first timetable after all those that begin with p; there is none where those end with the last of all
pub record FirstAfter (T E : ℕ) (p y : List ℕ) : Type 0 where
  pub timetable : Timetable T E y
  pub after : (x : List ℕ) → Timetable T E x → Begins p x → Before x y
  pub first : (z : List ℕ) → Timetable T E z → ((x : List ℕ) → Timetable T E x → Begins p x → Before x z) → Before z y → ⊥

-- the next floor of a find whose budget is spent: the first timetable after all that begin with the dead end whose number is
-- the budget, or the minutes of the given floor where the budget is 0
pub record NextFloor (q : Problem) (floor : List ℕ) (budget : ℕ) (nth : ℕ → List ℕ) (y : List ℕ) : Type 0 where
  pub given : budget ≡ 0 → y ≡ take (events q) floor
  pub after : (b : ℕ) → budget ≡ suc b → FirstAfter q.meaning.period (events q) (nth b) y

-- what is answered and written where n dead ends count, nth 0 to nth (n - 1): found and none carry n and do not exceed the
-- budget; spent, exactly where n does, carries the budget
abbrev pub Says : (q : Problem) → List ℕ → ℕ → ℕ → (ℕ → List ℕ) → Answer → List ℕ → Type 0
Says q floor budget n nth (Found k) written = (k ≡ n) × (n ≤ budget) × Sought q floor written
Says q floor budget n nth (Nothing k) written = (k ≡ n) × (n ≤ budget) × Unsolved q floor × (written ≡ [])
Says q floor budget n nth (Spent k) written = (k ≡ budget) × (budget < n) × NextFloor q floor budget nth written

-- a find from this floor with this budget answers so and writes this
pub record Finds (q : Problem) (way : Way q) (floor : List ℕ) (budget : ℕ) (answer : Answer) (written : List ℕ) : Type 0 where
  pub number : ℕ
  pub nth : ℕ → List ℕ
  pub listed : Listed (Counted q way floor) number nth
  pub says : Says q floor budget number nth answer written
