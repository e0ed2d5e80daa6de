-- The numbers of the refusals.
use Rattle.std.specs.Prelude.{ℕ}
use Rattle.refusals.specs.declared.Refusal.{Refusal}
use Rattle.refusals.specs.declared.Refusal.TheVariants.{Form, Turn, Short, Range, Event, Full, Level, Bank}

-- 1 to 8, in the order in which the tests are made
abbrev pub number_of : Refusal → ℕ
number_of Form = 1
number_of Turn = 2
number_of Short = 3
number_of Range = 4
number_of Event = 5
number_of Full = 6
number_of Level = 7
number_of Bank = 8
