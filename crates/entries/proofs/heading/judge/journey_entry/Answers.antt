use Rattle.std.proofs.Common.{arith}
use Rattle.entries.proofs.Events.{chain_small}
use Rattle.entries.proofs.heading.judge.journey_entry.Goals as goal

pub overflow_cast-result-4 : goal.overflow_cast-result-4
overflow_cast-result-4 c =
    omega (arith, chain_small c.args.n.now.values c.args.n.now.count c.args.events 2 _ c.in_ok-blame-2.ensures c.event_fault.ensures.ranged c.requires.zeros (omega arith) (omega arith))

pub overflow_cast-result-5 : goal.overflow_cast-result-5
overflow_cast-result-5 c =
    omega (arith, chain_small c.args.n.now.values c.args.n.now.count c.args.events 3 _ c.in_ok-blame-2.ensures c.event_fault.ensures.ranged c.requires.zeros (omega arith) (omega arith))

pub overflow_cast-result-6 : goal.overflow_cast-result-6
overflow_cast-result-6 c =
    omega (arith, chain_small c.args.n.now.values c.args.n.now.count c.args.events 4 _ c.in_ok-blame-2.ensures c.event_fault.ensures.ranged c.requires.zeros (omega arith) (omega arith))

pub overflow_cast-result-7 : goal.overflow_cast-result-7
overflow_cast-result-7 c =
    omega (arith, chain_small c.args.n.now.values c.args.n.now.count c.args.events 5 _ c.in_ok-blame-2.ensures c.event_fault.ensures.ranged c.requires.zeros (omega arith) (omega arith))

pub overflow_cast-result-8 : goal.overflow_cast-result-8
overflow_cast-result-8 c =
    omega (arith, chain_small c.args.n.now.values c.args.n.now.count c.args.events 6 _ c.in_ok-blame-2.ensures c.event_fault.ensures.ranged c.requires.zeros (omega arith) (omega arith))

pub overflow_cast-result-9 : goal.overflow_cast-result-9
overflow_cast-result-9 c =
    omega (arith, chain_small c.args.n.now.values c.args.n.now.count c.args.events 7 _ c.in_ok-blame-2.ensures c.event_fault.ensures.ranged c.requires.zeros (omega arith) (omega arith))
