use Rattle.std.proofs.Common.{◌≡◌}
use Rattle.sets.specs.Loops.{counted}
use Rattle.run.proofs.tables.Laws.{ms_at, nonzero}
use Rattle.run.proofs.tables.nonzero.Given as goal

abbrev pub invariant-loop-x : goal.invariant-loop-x
invariant-loop-x g l = l.n ≡ counted (λ k. nonzero (ms_at g.T.Lasting.ms g.T.Lasting.of l.table k)) l.x-index
