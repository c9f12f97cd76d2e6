-- As many as are not 0 of those passed, so no more than were passed.
use Rattle.std.proofs.Common.{ℕ, ◌+◌, ap, ◌∙◌, rules, arith}
use Rattle.sets.proofs.Counts.{summed-start, summed_turn, counted-not}
use Rattle.run.proofs.tables.Laws.{one, as-one, ms_at, nonzero, read-at}
use Rattle.run.proofs.tables.nonzero.Goals as goal

pub loop-x-init : goal.loop-x-init
loop-x-init g c = summed-start _

pub loop-x-preserved : goal.loop-x-preserved
loop-x-preserved g c =
    let here = read-at g.T.Lasting.ms g.T.Lasting.of c.args.table.now _ c.loop-x-test.true (search rules) c.ms.ensures in
    summed_turn _ _ c.loop-x.invariant (ap (λ (x : ℕ). c.loop-x.n + x) (c.from-n.ensures ∙ as-one _ ∙ ap (λ (x : ℕ). one (nonzero x)) here))

pub overflow_add-n : goal.overflow_add-n
overflow_add-n g c =
    omega (arith, loop-x-preserved g c, counted-not (λ k. nonzero (ms_at g.T.Lasting.ms g.T.Lasting.of c.args.table.now k)) (c.loop-x.x-index + 1))
