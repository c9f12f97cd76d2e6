use Rattle.std.proofs.Common.{◌≡◌, eqb, get_or}
use Rattle.sets.specs.Loops.{all}
use Rattle.index.proofs.consulting.are_same.Given as goal

abbrev pub invariant-loop-k : goal.invariant-loop-k
invariant-loop-k l = l.same ≡ all (λ j. eqb (get_or l.index j 0) (get_or l.own j 0)) l.k
