-- What is true of every search.
use Rattle.std.specs.Prelude.{◌≡◌, ℕ, ◌+◌, ◌<◌, List, length, take}
use Rattle.minutes.specs.Minutes.{Timetable}
use Rattle.relations.specs.Meaning.{Meaning, Long, relation, size}
use Rattle.rest.specs.Rest.{Suits}
use Rattle.search.specs.declared.Answer.{Answer}
use Rattle.search.specs.declared.Answer.TheVariants.{Found, Nothing, Spent}
use Rattle.search.specs.Search.{Problem, events, WellPosed, FloorOf, Way, Finds}
use Rattle.search.specs.InWords.{EarliestOrNone, TheNumber}

-- there is a way of narrowing
abbrev pub SomeWay : Type 0
SomeWay = (q : Problem) → WellPosed q → Way q

-- every search has an answer, and so a number
abbrev pub AlwaysAnswers : Type 0
AlwaysAnswers = (q : Problem) → WellPosed q → (way : Way q) (floor : List ℕ) → FloorOf q floor → (budget : ℕ) →
    (a : Answer) × (w : List ℕ) × Finds q way floor budget a w

-- two answers to the same are the same, with their numbers and with what is written
pub record OneAndSame (q : Problem) (v w : Way q) (floor : List ℕ) (budget : ℕ) (a b : Answer) (x y : List ℕ) (f : Finds q v floor budget a x) (g : Finds q w floor budget b y) : Type 0 where
  pub answer : a ≡ b
  pub written : x ≡ y
  pub number : f.number ≡ g.number

-- in whichever way either narrows
abbrev pub OneAnswer : Type 0
OneAnswer = (q : Problem) → WellPosed q → (v w : Way q) (floor : List ℕ) (budget : ℕ) (a b : Answer) (x y : List ℕ) →
    (f : Finds q v floor budget a x) (g : Finds q w floor budget b y) → OneAndSame q v w floor budget a b x y f g

-- an answer does not depend on the way of narrowing
abbrev pub AnyWay : Type 0
AnyWay = (q : Problem) → WellPosed q → (v w : Way q) (floor : List ℕ) (budget : ℕ) (a : Answer) (x : List ℕ) →
    Finds q v floor budget a x → Finds q w floor budget a x

-- only the minutes of a floor's first events count
abbrev pub FloorCut : Type 0
FloorCut = (q : Problem) → WellPosed q → (way : Way q) (f g : List ℕ) → FloorOf q f → FloorOf q g → take (events q) f ≡ take (events q) g →
    (budget : ℕ) (a : Answer) (x : List ℕ) → Finds q way f budget a x → Finds q way g budget a x

-- two meanings are the same: they have equal period, reach and size, and where the laws speak the conditions and the
-- narrowings of their relations agree
pub record SameMeaning (m n : Meaning) : Type 0 where
  pub period : m.period ≡ n.period
  pub reach : m.reach ≡ n.reach
  pub number : size m ≡ size n
  pub conditions : (k : ℕ) → k < size m → (x : List ℕ) → Long m.reach x → Timetable m.period (length x) x →
      (relation m k).condition x ≡ (relation n k).condition x
  pub narrowings : (k : ℕ) → k < size m → (f : List ℕ) → Suits m f → (relation m k).narrowing f ≡ (relation n k).narrowing f

abbrev pub problem : Meaning → List ℕ → Problem
problem m allowed = record { meaning = m; allowed = allowed }

-- banks of the same meaning have the same answers
abbrev pub SameAnswers : Type 0
SameAnswers = (m n : Meaning) (allowed : List ℕ) → WellPosed (problem m allowed) → WellPosed (problem n allowed) → SameMeaning m n →
    (v : Way (problem m allowed)) (w : Way (problem n allowed)) (floor : List ℕ) (budget : ℕ) (a : Answer) (x : List ℕ) →
    Finds (problem m allowed) v floor budget a x → Finds (problem n allowed) w floor budget a x

-- an answer with n more dead ends before it
abbrev pub added : ℕ → Answer → Answer
added n (Found k) = Found (n + k)
added n (Nothing k) = Nothing (n + k)
added n (Spent k) = Spent (n + k)

-- the one answer of a find from this floor with this budget, in whichever way it narrows, whether it was run or not
pub record MustAnswer (q : Problem) (floor : List ℕ) (budget : ℕ) (a : Answer) (x : List ℕ) : Type 0 where
  pub finds : (way : Way q) → Finds q way floor budget a x
  pub word : (way : Way q) (b : Answer) (y : List ℕ) → Finds q way floor budget b y → b ≡ a
  pub written : (way : Way q) (b : Answer) (y : List ℕ) → Finds q way floor budget b y → y ≡ x

-- Resuming adds up: a find was spent and wrote a next floor; a second, from a floor that begins with that one, answered. Then
-- one find from the first's floor with both budgets answers the second's word and list with the numbers added. The three may
-- bring different banks of the same meaning, and floors with more behind their minutes.
abbrev pub Resuming : Type 0
Resuming = (m n o : Meaning) (allowed : List ℕ) →
    WellPosed (problem m allowed) → WellPosed (problem n allowed) → WellPosed (problem o allowed) → SameMeaning m n → SameMeaning m o →
    (v : Way (problem m allowed)) (w : Way (problem n allowed)) (first second whole next : List ℕ) →
    FloorOf (problem m allowed) first → FloorOf (problem n allowed) second → FloorOf (problem o allowed) whole →
    (b c k : ℕ) (a : Answer) (x : List ℕ) →
    Finds (problem m allowed) v first b (Spent k) next →
    take (length allowed) second ≡ next → Finds (problem n allowed) w second c a x →
    take (length allowed) whole ≡ take (length allowed) first →
    MustAnswer (problem o allowed) whole (b + c) (added b a) x

-- the two promises of a find, in words, follow from the relation
abbrev pub EarliestOrNoneHolds : Type 0
EarliestOrNoneHolds = (q : Problem) (way : Way q) (floor : List ℕ) (budget : ℕ) (a : Answer) (x : List ℕ) →
    Finds q way floor budget a x → EarliestOrNone q floor a x

abbrev pub TheNumberHolds : Type 0
TheNumberHolds = (q : Problem) (way : Way q) (floor : List ℕ) (budget : ℕ) (a : Answer) (x : List ℕ) →
    Finds q way floor budget a x → TheNumber q way floor budget a x
