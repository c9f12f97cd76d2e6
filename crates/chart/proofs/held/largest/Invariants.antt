use mathlib.Core.Path.{◌≡◌}
use Rattle.chart.specs.Held.{largest}
use Rattle.chart.proofs.held.largest.Given as goal

abbrev pub invariant-loop-x : goal.invariant-loop-x
invariant-loop-x l = l.most ≡ largest l.x-index l.table
