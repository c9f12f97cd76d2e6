-- What is gone is 0, the others are as they were.
use Rattle.std.proofs.Common.{◌<◌, rules, arith}
use Rattle.sets.proofs.Visits.{changed-turn, changed-end, visit-lt, visit-has}
use Rattle.run.proofs.tables.clear.Goals as goal

pub bounds-table-k : goal.bounds-table-k
bounds-table-k g c = let s = c.in-Some.ensures.steps in visit-lt c.loop-k.invariant.visited s.0 s.1

pub listed : goal.listed
listed g c =
    let s = c.in-Some.ensures.steps in
    let at : c.in-Some.k < g.row.N = visit-lt c.loop-k.invariant.visited s.0 s.1 in
    omega arith

pub offset_bounds-table-k : goal.offset_bounds-table-k
offset_bounds-table-k g c =
    let s = c.in-Some.ensures.steps in
    let at : c.in-Some.k < g.row.N = visit-lt c.loop-k.invariant.visited s.0 s.1 in
    search rules

pub loop-k-preserved : goal.loop-k-preserved
loop-k-preserved g c =
    let w = c.loop-k.invariant in
    let s = c.in-Some.ensures.steps in
    changed-turn w s.0 s.1 s.2 (rw (visit-has w.visited s.0 s.1) c.of.ensures)

pub returns : goal.returns
returns g c = changed-end c.loop-k.invariant c.in-None.ensures.steps.0
