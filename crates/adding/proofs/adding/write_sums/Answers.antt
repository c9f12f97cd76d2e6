-- Each sum fits.
use Rattle.std.proofs.Common.{arith}
use borrow.Author.Tests.{leb-true}
use Rattle.sets.proofs.Loops.{all_true, written-end}
use Rattle.adding.specs.Adding.{sums}
use Rattle.adding.proofs.adding.write_sums.Goals as goal

pub overflow_add-sum : goal.overflow_add-sum
overflow_add-sum c = let h = leb-true _ 65535 (all_true _ _ c.requires.2 c.loop-k.k (omega arith)) in omega arith

pub returns : goal.returns
unfolding sums
returns c =
    let l = c.loop-k in
    written-end _ _ _ l.k _ l.invariant (omega (arith, l.invariant.long))
