-- Whether the sums passed fit.
use Rattle.std.proofs.Common.{◌≡◌}
use Rattle.sets.specs.Loops.{all}
use Rattle.adding.specs.Adding.{fits_at}
use Rattle.adding.proofs.adding.all_fit.Given as goal

abbrev pub invariant-loop-k : goal.invariant-loop-k
invariant-loop-k l = l.fit ≡ all (fits_at l.first l.second) l.k
