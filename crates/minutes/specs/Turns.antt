-- Minute sets turned and widened round the period.
use Rattle.std.specs.Prelude.{◌≡◌, ℕ, ◌/◌, ◌%◌, ◌^◌, ◌<◌}
use Rattle.minutes.specs.Minutes.{In}
use Rattle.minutes.specs.Differences.{gap}

-- r is the set s turned on by d minutes: it has minute m where s has m - d, round the period
pub record Turned (T d s r : ℕ) : Type 0 where
  pub below : r < 2 ^ T
  pub bit : (m : ℕ) → m < T → r / 2 ^ m % 2 ≡ s / 2 ^ gap T d m % 2

-- r is the set s together with s turned on by each d below n
pub record Widened (T n s r : ℕ) : Type 0 where
  pub below : r < 2 ^ T
  pub from : (m : ℕ) → In m r → (d : ℕ) × (d < n) × In (gap T d m) s
  pub to : (m d : ℕ) → m < T → d < n → In (gap T d m) s → In m r
