-- Every word passed is the chart's own.
use Rattle.std.proofs.Common.{refl, arith}
use Rattle.sets.proofs.Loops.{all_start, all-turn, all_done}
use Rattle.index.proofs.consulting.are_same.Goals as goal

pub loop-k-init : goal.loop-k-init
loop-k-init c = all_start _

pub loop-k-preserved : goal.loop-k-preserved
loop-k-preserved c = all-turn _ _ c.loop-k.invariant refl

pub returns : goal.returns
returns c = all_done _ c.loop-k.k c.loop-k.invariant (omega arith) (omega arith)
