-- The sum of what is passed, each step adding 65535 at most.
use Rattle.std.proofs.Common.{arith}
use Rattle.sets.proofs.Counts.{summed-start}
use Rattle.tally.proofs.weighing.Laws.{weight-turn, weight-end}
use Rattle.tally.proofs.weighing.weight_in.Goals as goal

pub loop-k-init : goal.loop-k-init
loop-k-init c = (summed-start _, omega arith)

pub loop-k-preserved : goal.loop-k-preserved
loop-k-preserved c =
    let l = c.loop-k in
    (weight-turn c.args.weights.now c.args.set l.k l.invariant.0 c.is_in.ensures c.added-sum.ensures.0, omega arith)

pub returns : goal.returns
returns c = let l = c.loop-k in weight-end _ _ l.k l.invariant.0 (omega arith)
