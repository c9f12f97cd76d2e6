-- The sums passed are written.
use Rattle.std.proofs.Common.{length}
use Rattle.sets.proofs.Loops.{Written}
use Rattle.adding.specs.Adding.{sum_at}
use Rattle.adding.proofs.adding.write_sums.Given as goal

abbrev pub invariant-loop-k : goal.invariant-loop-k
invariant-loop-k l = Written 0 (sum_at l.first l.second) (length l.initial.sum) l.k l.sum
