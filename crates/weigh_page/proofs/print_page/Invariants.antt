-- What is gathered fits.
use Rattle.std.proofs.Common.{◌≤◌, length}
use Rattle.weigh_page.proofs.print_page.Given as goal

abbrev pub invariant-loop-k : goal.invariant-loop-k
invariant-loop-k g l = l.used ≤ length l.out
