-- Each member's place has it grown, the others are as they were.
use Rattle.std.proofs.Common.{◌<◌, length, ap, ◌∙◌, rules}
use Rattle.std.proofs.lemmas.List.{get_or_default}
use Rattle.sets.proofs.Visits.{change-old, changed-turn, changed-end, visit-lt, visit-has}
use Rattle.run.specs.Run.{longer}
use Rattle.run.proofs.tables.grow.Goals as goal

pub bounds-table-k : goal.bounds-table-k
bounds-table-k g c = let s = c.in-Some.ensures.steps in visit-lt c.loop-k.invariant.visited s.0 s.1

pub listed : goal.listed
listed g c =
    let s = c.in-Some.ensures.steps in
    let at : c.in-Some.k < g.row.N = visit-lt c.loop-k.invariant.visited s.0 s.1 in
    search rules

pub offset_bounds-table-k : goal.offset_bounds-table-k
offset_bounds-table-k g c =
    let s = c.in-Some.ensures.steps in
    let at : c.in-Some.k < g.row.N = visit-lt c.loop-k.invariant.visited s.0 s.1 in
    search rules

pub bounds-table-k-in-loop-k : goal.bounds-table-k-in-loop-k
bounds-table-k-in-loop-k g c = let s = c.in-Some.ensures.steps in visit-lt c.loop-k.invariant.visited s.0 s.1

pub listed-in-loop-k : goal.listed-in-loop-k
listed-in-loop-k g c =
    let s = c.in-Some.ensures.steps in
    let at : c.in-Some.k < g.row.N = visit-lt c.loop-k.invariant.visited s.0 s.1 in
    search rules

pub offset_bounds-table-k-in-loop-k : goal.offset_bounds-table-k-in-loop-k
offset_bounds-table-k-in-loop-k g c =
    let s = c.in-Some.ensures.steps in
    let at : c.in-Some.k < g.row.N = visit-lt c.loop-k.invariant.visited s.0 s.1 in
    search rules

pub loop-k-preserved : goal.loop-k-preserved
loop-k-preserved g c =
    let w = c.loop-k.invariant in
    let s = c.in-Some.ensures.steps in
    let at : c.in-Some.k < length c.loop-k.table = rw w.long (visit-lt w.visited s.0 s.1) in
    let here = get_or_default c.loop-k.table c.in-Some.k c.index-table-k.result (g.T.Lasting.of 0) at ∙ change-old w s.0 s.1 in
    changed-turn w s.0 s.1 s.2
    (rw (visit-has w.visited s.0 s.1) (c.longer.ensures ∙ ap (λ x. g.T.Lasting.of (longer c.args.elapsed (g.T.Lasting.ms x))) here))

pub returns : goal.returns
returns g c = changed-end c.loop-k.invariant c.in-None.ensures.steps.0
