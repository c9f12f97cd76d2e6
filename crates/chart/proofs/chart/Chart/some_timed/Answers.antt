-- Whether one of the blocks passed is timed.
use Rattle.sets.proofs.Loops.{some-start, some_turn}
use Rattle.chart.proofs.chart.Chart.some_timed.Goals as goal

pub loop-k-init : goal.loop-k-init
loop-k-init c = some-start _

pub loop-k-preserved : goal.loop-k-preserved
loop-k-preserved c = some_turn _ c.loop-k.k c.loop-k.invariant c.is_timed-any.ensures
