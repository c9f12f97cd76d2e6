use mathlib.Core.Path.{◌≡◌}
use Rattle.sets.specs.Loops.{some}
use Rattle.chart.specs.Held.{initial_at}
use Rattle.chart.proofs.chart.Chart.some_initial.Given as goal

abbrev pub invariant-loop-i : goal.invariant-loop-i
invariant-loop-i l = l.any ≡ some (initial_at l.self.initial) l.i
