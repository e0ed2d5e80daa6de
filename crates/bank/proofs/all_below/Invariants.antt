use Rattle.std.proofs.Common.{◌≡◌, drop}
use Rattle.bank.specs.Calls.{all_below}
use Rattle.bank.proofs.all_below.Given as goal

abbrev pub invariant-loop-m : goal.invariant-loop-m
invariant-loop-m l = all_below l.period (drop l.m-index l.minutes) ≡ all_below l.period l.minutes
