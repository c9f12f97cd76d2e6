use Rattle.std.proofs.Common.{◌≡◌, ◌*◌, ◌≤◌}
use Rattle.sets.specs.Loops.{summed}
use Rattle.tally.proofs.weighing.Laws.{weight_at}
use Rattle.tally.proofs.weighing.weight_in.Given as goal

abbrev pub invariant-loop-k : goal.invariant-loop-k
invariant-loop-k l = (l.sum ≡ summed (weight_at l.weights l.set) l.k) × (l.sum ≤ 65535 * l.k)
