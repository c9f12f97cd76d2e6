use mathlib.Core.Path.{◌≡◌}
use mathlib.Core.Bool.{true}
use lib.ListN.{get_or}
use Rattle.sets.proofs.Visits.{Visited}
use Rattle.run.specs.Apart.{counts_of}
use Rattle.choice.specs.Choice.{ripe_at}
use Rattle.choice.proofs.is_ripe.Given as goal

abbrev pub invariant-loop-k : goal.invariant-loop-k
invariant-loop-k l = Visited (λ j. ripe_at l.wait l.sources j (get_or (counts_of l.counters) j 0) ≡ true) 64 l.sources l.k-iterator.rest
