use Rattle.std.proofs.Common.{◌≡◌}
use Rattle.sets.specs.Loops.{first_code}
use Rattle.tally.proofs.weighing.Laws.{code_at}
use Rattle.tally.proofs.weighing.unbalanced.Given as goal

abbrev pub invariant-loop-t : goal.invariant-loop-t
invariant-loop-t l = first_code (code_at l.chart.sources l.chart.targets l.weights) l.t ≡ 0
