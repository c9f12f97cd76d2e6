-- Every block passed names what exists exactly if `fit` says so.
use mathlib.Core.Path.{refl, ◌∙◌}
use Rattle.sets.proofs.Loops.{all_start, all-turn, and-three}
use Rattle.chart.proofs.chart.Chart.block_names_fit.Goals as goal

pub loop-i-init : goal.loop-i-init
loop-i-init c = all_start _

pub loop-i-preserved : goal.loop-i-preserved
loop-i-preserved c = and-three c.loop-i.fit _ _ _ ∙ all-turn _ c.loop-i.i c.loop-i.invariant refl
