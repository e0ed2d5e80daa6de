-- What the steps of the search answer.
use Rattle.std.specs.Prelude.{◌≡◌, ℕ, ◌<◌, ◌≤◌, List}
use Rattle.minutes.specs.Minutes.{In, at}

-- t is the lowest minute of s from low on
pub record Lowest (s low t : ℕ) : Type 0 where
  pub left : In t s
  pub above : low ≤ t
  pub least : (v : ℕ) → low ≤ v → v < t → In v s → ⊥

-- z is y with zeros from place n on
pub record ZerosFrom (y : List ℕ) (n : ℕ) (z : List ℕ) : Type 0 where
  pub same : (j : ℕ) → j < n → at z j ≡ at y j
  pub zeros : (j : ℕ) → n ≤ j → at z j ≡ 0
