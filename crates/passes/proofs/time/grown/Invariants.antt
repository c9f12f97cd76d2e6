use Rattle.std.proofs.Common.{replicate}
use Rattle.sets.proofs.Visits.{ChangedFrom}
use Rattle.run.specs.Run.{counter}
use Rattle.passes.proofs.time.Laws.{grown_at}
use Rattle.passes.proofs.time.grown.Given as goal

abbrev pub invariant-loop-k : goal.invariant-loop-k
invariant-loop-k l = ChangedFrom (counter 0) (grown_at l.counters l.active l.e) (replicate 64 (counter 0)) 64 l.active l.k-iterator.rest l.grown
