use Rattle.sets.proofs.Visits.{Lessened}
use Rattle.run.proofs.tables.Laws.{one, ms_at, nonzero, unfit}
use Rattle.run.proofs.tables.fits.Given as goal

abbrev pub invariant-loop-k : goal.invariant-loop-k
invariant-loop-k g l =
    let n = ms_at g.T.Lasting.ms g.T.Lasting.of l.table in
    Lessened (λ j. one (nonzero (n j))) (λ j. one (unfit l.set j (n j))) g.row.N l.set l.k-iterator.rest l.left
