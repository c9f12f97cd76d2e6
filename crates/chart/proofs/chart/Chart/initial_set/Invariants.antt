use mathlib.Core.Path.{◌≡◌}
use Rattle.sets.specs.Sets.{collect}
use Rattle.chart.specs.Held.{initial_at}
use Rattle.chart.proofs.chart.Chart.initial_set.Given as goal

abbrev pub invariant-loop-k : goal.invariant-loop-k
invariant-loop-k l = l.set ≡ collect (initial_at l.self.initial) l.k
