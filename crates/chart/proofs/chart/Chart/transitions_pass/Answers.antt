-- Every transition passed has no number exactly if `pass` says so.
use Rattle.sets.proofs.Loops.{all_start, all-turn}
use Rattle.chart.proofs.chart.Chart.transitions_pass.Goals as goal

pub loop-t-init : goal.loop-t-init
loop-t-init c = all_start _

pub loop-t-preserved : goal.loop-t-preserved
loop-t-preserved c = all-turn _ c.loop-t.t c.loop-t.invariant (rw c.transition.ensures at c.passes-pass.ensures)
