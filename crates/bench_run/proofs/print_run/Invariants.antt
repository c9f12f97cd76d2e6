-- Each line brings the printing nearer to its end.
use Rattle.std.proofs.Common.{◌≤◌, length}
use Rattle.report.proofs.printing.Laws.{remaining}
use Rattle.bench_run.proofs.print_run.Given as goal

abbrev pub invariant-loop-standing : goal.invariant-loop-standing
invariant-loop-standing g l = l.used ≤ length l.out

abbrev pub decreases-loop-standing : goal.decreases-loop-standing
decreases-loop-standing g l = remaining l.fn.trace l.standing
