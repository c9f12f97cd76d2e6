use Rattle.std.proofs.Common.{◌≡◌, ◌^◌, true, ltb, get_or}
use Rattle.sets.specs.Loops.{all}
use Rattle.index.specs.Building.{index_of}
use Rattle.index.proofs.building.leaving_of.Given as goal

abbrev pub invariant-loop-t : goal.invariant-loop-t
invariant-loop-t l = (l.leaving ≡ index_of l.t l.sources) × (true ≡ all (λ j. ltb (get_or l.sources j 0) (2 ^ 64)) l.t)
