use mathlib.Core.Path.{◌≡◌}
use Rattle.sets.specs.Loops.{all}
use Rattle.chart.specs.Held.{block_names_at}
use Rattle.chart.proofs.chart.Chart.block_names_fit.Given as goal

abbrev pub invariant-loop-i : goal.invariant-loop-i
invariant-loop-i l = l.fit ≡ all (block_names_at l.steps l.actions l.self.blockstep l.self.blockaction l.self.qualifier) l.i
