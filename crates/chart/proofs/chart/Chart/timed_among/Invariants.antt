use Prim.Native.Nat.{◌+◌}
use mathlib.Core.Path.{◌≡◌}
use Rattle.sets.specs.Sets.{collect}
use Rattle.chart.specs.Held.{timed_from}
use Rattle.chart.proofs.chart.Chart.timed_among.Given as goal

abbrev pub invariant-loop-k : goal.invariant-loop-k
invariant-loop-k l = l.among ≡ collect (timed_from l.at l.self.qualifier) (l.k + 1)
