-- `most` is the largest of those passed.
use Rattle.chart.proofs.held.Laws.{largest-start, largest-turn}
use Rattle.chart.proofs.held.largest.Goals as goal

pub loop-x-init : goal.loop-x-init
loop-x-init c = largest-start _

pub loop-x-preserved : goal.loop-x-preserved
loop-x-preserved c = largest-turn _ c.loop-x.x-index c.loop-x.invariant c.max-most.ensures
