-- Each member's place has its grown counter, the others stay 0.
use Rattle.std.proofs.Common.{refl, ◌∙◌, arith, rules}
use lib.ListN.{get_or-replicate}
use Rattle.run.specs.Run.{counter}
use Rattle.sets.proofs.Visits.{changed-start, changed-turn, changed-end, visit-lt, visit-has}
use Rattle.passes.proofs.time.Laws.{grown-counts}
use Rattle.passes.proofs.time.grown.Goals as goal

pub loop-k-init : goal.loop-k-init
loop-k-init c =
    rw (c.into_iter-k-iterator.ensures.into_iter_gives, c.each-k-items.ensures)
    (changed-start (omega arith) (search rules) refl (λ j l n. get_or-replicate 64 j (counter 0) (counter 0) l ∙ rw n))

pub loop-k-preserved : goal.loop-k-preserved
loop-k-preserved c =
    let w = c.loop-k.invariant in
    let s = c.in-Some.ensures.steps in
    changed-turn w s.0 s.1 s.2 (rw (visit-has w.visited s.0 s.1) c.longer.ensures)

pub bounds-counters-k : goal.bounds-counters-k
bounds-counters-k c = let s = c.in-Some.ensures.steps in visit-lt c.loop-k.invariant.visited s.0 s.1

pub offset_bounds-counters-k : goal.offset_bounds-counters-k
offset_bounds-counters-k c = let s = c.in-Some.ensures.steps in omega (arith, visit-lt c.loop-k.invariant.visited s.0 s.1)

pub bounds-grown-k : goal.bounds-grown-k
bounds-grown-k c = let s = c.in-Some.ensures.steps in visit-lt c.loop-k.invariant.visited s.0 s.1

pub offset_bounds-grown-k : goal.offset_bounds-grown-k
offset_bounds-grown-k c = let s = c.in-Some.ensures.steps in omega (arith, visit-lt c.loop-k.invariant.visited s.0 s.1)

pub returns : goal.returns
returns c = grown-counts _ _ _ _ (changed-end c.loop-k.invariant c.in-None.ensures.steps.0)
