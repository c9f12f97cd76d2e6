-- The number of the digits passed.
use Rattle.std.proofs.Common.{min, ◌≡◌}
use Rattle.weights.specs.Words.{value}
use Rattle.weights.proofs.words.value_of.Given as goal

abbrev pub invariant-loop-b : goal.invariant-loop-b
invariant-loop-b l = l.number ≡ min (value l.b-index l.digits) 65536
