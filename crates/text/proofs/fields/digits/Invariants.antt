use Rattle.std.proofs.Common.{◌≡◌, ◌^◌, ◌<◌, drop}
use Rattle.text.specs.Fields.{digits}
use Rattle.text.proofs.fields.digits.Given as goal

abbrev pub invariant-loop-c : goal.invariant-loop-c
invariant-loop-c l = (l.n < 10 ^ l.c-index) × (digits l.n (drop l.c-index l.field) ≡ digits 0 l.field)
