-- Every duration passed fits exactly if `fit` says so.
use Rattle.sets.proofs.Loops.{all_start, all-turn}
use Rattle.chart.proofs.chart.Chart.durations_fit.Goals as goal

pub loop-i-init : goal.loop-i-init
loop-i-init c = all_start _

pub loop-i-preserved : goal.loop-i-preserved
loop-i-preserved c = all-turn _ c.loop-i.i c.loop-i.invariant c.duration_fits-fit.ensures
