-- Step by step.
use Rattle.std.proofs.Common.{refl}
use Rattle.sets.proofs.Loops.{all_start, all-turn}
use Rattle.adding.specs.Adding.{fits_at}
use Rattle.adding.proofs.adding.all_fit.Goals as goal

pub loop-k-init : goal.loop-k-init
loop-k-init c = all_start _

pub loop-k-preserved : goal.loop-k-preserved
loop-k-preserved c = all-turn (fits_at c.args.first.now c.args.second.now) c.loop-k.k c.loop-k.invariant refl
