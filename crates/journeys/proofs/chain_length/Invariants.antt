use Rattle.std.proofs.Common.{◌≡◌, ◌+◌, ◌-◌, ◌*◌, ◌≤◌, map, length, drop}
use Rattle.std.specs.Slice.Iter.{windows_size, windows_rest}
use Rattle.relations.specs.ExactNarrowing.{of}
use Rattle.relations.specs.Conditions.{legs}
use Rattle.journeys.proofs.chain_length.Given as goal

abbrev pub invariant-loop-pair : goal.invariant-loop-pair
invariant-loop-pair l =
    let rest = windows_rest l.pair-iterator in
    let i = length l.chain - length rest in
    let T = l.fn.period.minutes in
    (windows_size l.pair-iterator ≡ 2) × (length rest ≤ length l.chain) × (rest ≡ drop i l.chain)
    × (l.total + legs T (map (of l.minutes) (drop i l.chain)) ≡ legs T (map (of l.minutes) l.chain))
    × (l.total ≤ 64 * i)
