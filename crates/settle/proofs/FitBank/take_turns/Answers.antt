use Rattle.std.proofs.Common.{arith}
use Rattle.rest.proofs.Settling.{came_rest}
use Rattle.settle.proofs.Emptiness.{stops_dead, ends}
use Rattle.settle.proofs.Turns.{turning_none, all_quiet, turned, heard, unheard, goes_up, goes_round}
use Rattle.settle.proofs.FitBank.take_turns.Goals as goal
use Rattle.settle.proofs.FitBank.take_turns.Goals.{then-narrowed, else-narrowed, then-k-size, else-k-size}

pub loop-quiet-init : goal.loop-quiet-init
loop-quiet-init g c = turning_none _ _ _

pub loop-quiet-preserved : goal.loop-quiet-preserved
loop-quiet-preserved g c = (turned (g.met.B.Bank.laws c.args.self.now.bank.now) c.size-size.ensures c.args.self.now.small c.requires c.loop-quiet.invariant c.loop-quiet-test.true c.narrow-narrowed.ensures).turning _ _
    (elim c.if-narrowed.branch [ then-narrowed w ↦ heard _ w.if-narrowed.true w.quiet-is | else-narrowed w ↦ unheard _ w.if-narrowed.false w.quiet-is ])
    (elim c.if-k-size.branch [ then-k-size w ↦ goes_round _ _ w.if-k-size.true w.k-is | else-k-size w ↦ goes_up _ _ (omega (arith, c.loop-quiet.invariant.inside)) w.if-k-size.false w.k-is ])

pub loop-quiet-smaller : goal.loop-quiet-smaller
loop-quiet-smaller g c = (turned (g.met.B.Bank.laws c.args.self.now.bank.now) c.size-size.ensures c.args.self.now.small c.requires c.loop-quiet.invariant c.loop-quiet-test.true c.narrow-narrowed.ensures).less _
    (elim c.if-narrowed.branch [ then-narrowed w ↦ heard _ w.if-narrowed.true w.quiet-is | else-narrowed w ↦ unheard _ w.if-narrowed.false w.quiet-is ])

pub returns-then-contains-clause-settles : goal.returns-then-contains-clause-settles
returns-then-contains-clause-settles g c = stops_dead _ _ _ (turned (g.met.B.Bank.laws c.args.self.now.bank.now) c.size-size.ensures c.args.self.now.small c.requires c.loop-quiet.invariant c.loop-quiet-test.true c.narrow-narrowed.ensures).came _ c.contains.ensures.value c.if-contains.true

pub returns-clause-rest : goal.returns-clause-rest
returns-clause-rest g c e = came_rest _ _ _ c.loop-quiet.invariant.came (all_quiet _ _ _ _ _ _ (omega (arith, c.size-size.ensures, c.args.self.now.small)) c.loop-quiet-test.false c.loop-quiet.invariant)

pub returns-clause-settles : goal.returns-clause-settles
returns-clause-settles g c = ends _ _ _ c.loop-quiet.invariant.came (all_quiet _ _ _ _ _ _ (omega (arith, c.size-size.ensures, c.args.self.now.small)) c.loop-quiet-test.false c.loop-quiet.invariant) _ c.contains-2.ensures.value
