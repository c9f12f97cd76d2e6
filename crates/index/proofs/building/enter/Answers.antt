-- The words of the sources have the transition, the others are as they were.
use Rattle.std.proofs.Common.{ℕ, ap, ◌∙◌, arith, rules}
use Rattle.sets.specs.Sets.{insert}
use Rattle.sets.proofs.Visits.{change-old, changed-turn, changed-end, visit-lt, visit-has}
use Rattle.index.proofs.building.enter.Goals as goal

pub offset_bounds-leaving-k : goal.offset_bounds-leaving-k
offset_bounds-leaving-k c = let s = c.in-Some.ensures.steps in omega (arith, visit-lt c.loop-k.invariant.visited s.0 s.1)

pub bounds-leaving-k : goal.bounds-leaving-k
bounds-leaving-k c = let s = c.in-Some.ensures.steps in visit-lt c.loop-k.invariant.visited s.0 s.1

pub offset_bounds-leaving-k-in-loop-k : goal.offset_bounds-leaving-k-in-loop-k
offset_bounds-leaving-k-in-loop-k c = let s = c.in-Some.ensures.steps in omega (arith, visit-lt c.loop-k.invariant.visited s.0 s.1)

pub bounds-leaving-k-in-loop-k : goal.bounds-leaving-k-in-loop-k
bounds-leaving-k-in-loop-k c = let s = c.in-Some.ensures.steps in visit-lt c.loop-k.invariant.visited s.0 s.1

pub loop-k-preserved : goal.loop-k-preserved
loop-k-preserved c =
    let w = c.loop-k.invariant in
    let s = c.in-Some.ensures.steps in
    changed-turn w s.0 s.1 s.2 (c.with.ensures ∙ rw (visit-has w.visited s.0 s.1) (ap (λ (x : ℕ). insert x c.args.t) (change-old w s.0 s.1)))

pub returns : goal.returns
returns c = (changed-end c.loop-k.invariant c.in-None.ensures.steps.0, search rules)
