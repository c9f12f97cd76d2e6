-- Without an index all; else the words of the active steps passed.
use Rattle.std.proofs.Common.{arith, rules}
use Rattle.sets.proofs.Visits.{led-start, led-turn, led-end, visit-lt}
use Rattle.index.proofs.consulting.Laws.{all-consulted, some-consulted}
use Rattle.index.proofs.consulting.consulted.Goals as goal

pub returns-then-index-lt64 : goal.returns-then-index-lt64
returns-then-index-lt64 c = all-consulted _ _ _ _ c.if-index-lt64.true (cc)

pub loop-k-init : goal.loop-k-init
loop-k-init c =
    rw (c.into_iter-k-iterator.ensures.into_iter_gives, c.each-k-items.ensures)
    (led-start (search rules) (some-consulted c.args.index.now c.args.active c.args.n (omega arith)))

pub offset_bounds-index-k : goal.offset_bounds-index-k
offset_bounds-index-k c = let s = c.in-Some.ensures.steps in omega (arith, visit-lt c.loop-k.invariant.visited s.0 s.1)

pub bounds-index-k : goal.bounds-index-k
bounds-index-k c = let s = c.in-Some.ensures.steps in omega (arith, visit-lt c.loop-k.invariant.visited s.0 s.1)

pub loop-k-preserved : goal.loop-k-preserved
loop-k-preserved c = let s = c.in-Some.ensures.steps in led-turn c.loop-k.invariant s.0 s.1 s.2 (cc)

pub returns : goal.returns
returns c = led-end c.loop-k.invariant c.in-None.ensures.steps.0
