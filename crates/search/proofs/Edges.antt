-- How far a search has come, as a list that no later candidate is before, and how a step moves it.
use Rattle.std.proofs.Common.{◌≡◌, ℕ, suc, ◌<◌, ◌≤◌, ◌⊎◌, List, length}
use Rattle.minutes.specs.Minutes.{at}

-- an edge: a timetable, or past the last one a list that begins with T
pub record Edge (T E : ℕ) (y : List ℕ) : Type 0 where
  pub len : length y ≡ E
  pub first : at y 0 ≤ T
  pub later : (i : ℕ) → 0 < i → i < E → at y i < T

-- y' is y with the minute at place i raised and zeros behind, where every place from i to d is at its last minute
pub record Raised (T E : ℕ) (y : List ℕ) (d i : ℕ) (y' : List ℕ) : Type 0 where
  pub inside : i < d
  pub len : length y' ≡ E
  pub same : (j : ℕ) → j < i → at y' j ≡ at y j
  pub up : at y' i ≡ suc (at y i)
  pub zeros : (j : ℕ) → i < j → at y' j ≡ 0
  pub last : (j : ℕ) → i < j → j < d → T ≤ suc (at y j)
  pub below : 0 < i → suc (at y i) < T

-- y' is y with minute t at place d, and zeros behind where that is more
pub record Lowered (E : ℕ) (y : List ℕ) (d t : ℕ) (y' : List ℕ) : Type 0 where
  pub len : length y' ≡ E
  pub same : (j : ℕ) → j < d → at y' j ≡ at y j
  pub here : at y' d ≡ t
  pub behind : (y' ≡ y) ⊎ ((at y d < t) × ((j : ℕ) → d < j → at y' j ≡ 0))
