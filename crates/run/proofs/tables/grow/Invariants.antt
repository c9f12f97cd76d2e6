use Rattle.std.proofs.Common.{cond, get_or}
use Rattle.sets.specs.Sets.{has}
use Rattle.sets.proofs.Visits.{ChangedFrom}
use Rattle.run.specs.Run.{longer}
use Rattle.run.proofs.tables.grow.Given as goal

abbrev pub invariant-loop-k : goal.invariant-loop-k
invariant-loop-k g l =
    let none = g.T.Lasting.of 0 in
    let old = l.initial.table in
    ChangedFrom none (λ k. cond (has l.set k) (g.T.Lasting.of (longer l.elapsed (g.T.Lasting.ms (get_or old k none)))) (get_or old k none)) old g.row.N l.set l.k-iterator.rest l.table
