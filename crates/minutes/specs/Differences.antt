-- Differences of minutes round the period.
use Rattle.std.specs.Prelude.{ℕ, ◌+◌, ◌-◌, ◌%◌}

-- (b - a) mod T, for a from 0 to T
abbrev pub gap : ℕ → ℕ → ℕ → ℕ
gap T a b = (b + T - a) % T
