use mathlib.Core.Bool.{cond}
use lib.ListN.{get_or}
use Rattle.sets.specs.Sets.{has, insert}
use Rattle.sets.proofs.Visits.{Changed}
use Rattle.index.proofs.building.enter.Given as goal

abbrev pub invariant-loop-k : goal.invariant-loop-k
invariant-loop-k l = Changed (λ k. cond (has l.sources k) (insert (get_or l.initial.leaving k 0) l.t) (get_or l.initial.leaving k 0)) l.initial.leaving 64 l.sources l.k-iterator.rest l.leaving
