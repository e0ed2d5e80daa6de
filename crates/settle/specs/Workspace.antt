-- The workspace that a call is lent.
use Rattle.std.specs.Prelude.{ℕ, List, ◌++◌, drop, replicate}

-- its first 4,096 numbers are 0, the others as they were
abbrev pub cleared : List ℕ → List ℕ
cleared w = replicate 4096 0 ++ drop 4096 w
