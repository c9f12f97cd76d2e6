-- The lines so far are read.
use Rattle.std.proofs.Common.{length}
use Rattle.weights.proofs.listing.Laws.{Read}
use Rattle.weights.proofs.listing.list.Given as goal

abbrev pub invariant-loop-k : goal.invariant-loop-k
invariant-loop-k l = Read l.text l.initial.weights (length l.yielded) l.fault l.weights l.count
