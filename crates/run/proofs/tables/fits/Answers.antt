-- Of the entries that are not 0, the members' that fit are taken away: what is left does not fit.
use Rattle.std.proofs.Common.{ℕ, ◌<◌, ◌&&◌, eqb, leb, ap, ◌∙◌, rules}
use Rattle.sets.proofs.Counts.{none-counted}
use Rattle.sets.proofs.Visits.{lessened-start, lessen-le, lessened-turn, lessened-end, visit-lt, visit-has}
use Rattle.run.specs.Run.{longest}
use Rattle.run.proofs.tables.Laws.{as-one, ms_at, nonzero, read-at, unfit-outside, unfit-member}
use Rattle.run.proofs.tables.fits.Goals as goal

pub loop-k-init : goal.loop-k-init
loop-k-init g c =
    rw (c.into_iter-k-iterator.ensures.into_iter_gives, c.each-k-items.ensures)
    (lessened-start c.requires.0 c.requires.1 c.nonzero-left.ensures (λ j l. unfit-outside c.args.set j (ms_at g.T.Lasting.ms g.T.Lasting.of c.args.table.now j)))

pub bounds-table-k : goal.bounds-table-k
bounds-table-k g c = let s = c.in-Some.ensures.steps in visit-lt c.loop-k.invariant.visited s.0 s.1

pub listed : goal.listed
listed g c =
    let s = c.in-Some.ensures.steps in
    let at : c.in-Some.k < g.row.N = visit-lt c.loop-k.invariant.visited s.0 s.1 in
    search rules

pub offset_bounds-table-k : goal.offset_bounds-table-k
offset_bounds-table-k g c =
    let s = c.in-Some.ensures.steps in
    let at : c.in-Some.k < g.row.N = visit-lt c.loop-k.invariant.visited s.0 s.1 in
    search rules

pub overflow_sub-left : goal.overflow_sub-left
overflow_sub-left g c =
    let w = c.loop-k.invariant in
    let s = c.in-Some.ensures.steps in
    let here = read-at g.T.Lasting.ms g.T.Lasting.of c.args.table.now _ (visit-lt w.visited s.0 s.1) (search rules) c.ms.ensures in
    lessen-le _ w s.0 s.1
    (unfit-member c.args.set _ _ (visit-has w.visited s.0 s.1) (c.fits_member.ensures ∙ ap (λ (n : ℕ). nonzero n && leb n longest) here) (c.from-left.ensures ∙ as-one _))

pub loop-k-preserved : goal.loop-k-preserved
loop-k-preserved g c =
    let w = c.loop-k.invariant in
    let s = c.in-Some.ensures.steps in
    let here = read-at g.T.Lasting.ms g.T.Lasting.of c.args.table.now _ (visit-lt w.visited s.0 s.1) (search rules) c.ms.ensures in
    lessened-turn _ w s.0 s.1
    (unfit-member c.args.set _ _ (visit-has w.visited s.0 s.1) (c.fits_member.ensures ∙ ap (λ (n : ℕ). nonzero n && leb n longest) here) (c.from-left.ensures ∙ as-one _))
    s.2

pub returns : goal.returns
returns g c = ap (λ (n : ℕ). eqb n 0) (lessened-end c.loop-k.invariant c.in-None.ensures.steps.0) ∙ none-counted _ _
