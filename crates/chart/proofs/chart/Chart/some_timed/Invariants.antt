use Prim.Native.Nat.{◌+◌}
use mathlib.Core.Path.{◌≡◌}
use lib.ListN.{get_or}
use Rattle.sets.specs.Loops.{some}
use Rattle.fields.specs.Fields.{timed}
use Rattle.chart.proofs.chart.Chart.some_timed.Given as goal

abbrev pub invariant-loop-k : goal.invariant-loop-k
invariant-loop-k l = l.any ≡ some (λ j. timed (get_or l.self.qualifier (l.at + j) 0)) l.k
