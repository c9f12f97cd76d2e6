-- Every source passed has reached the wait, and a step that is no source is ripe from the beginning: looking at the sources is looking at all 64.
use mathlib.Core.Path.{refl, sym}
use native.Mathlib.Omega.{arith}
use borrow.Author.Rules.{rules}
use borrow.Author.Tests.{lt-leb, le-leb}
use Rattle.sets.proofs.Loops.{true-all, all-fails}
use Rattle.sets.proofs.Visits.{visited-start, visited-turn, visited-end, visit-lt, visit-has}
use Rattle.choice.proofs.Laws.{count-at}
use Rattle.choice.proofs.is_ripe.Goals as goal

pub loop-k-init : goal.loop-k-init
loop-k-init c =
    rw (c.into_iter-k-iterator.ensures.into_iter_gives, c.each-k-items.ensures) (visited-start (omega arith) (search rules) (λ j l n. rw n))

pub bounds-counters-k : goal.bounds-counters-k
bounds-counters-k c = let s = c.in-Some.ensures.steps in visit-lt c.loop-k.invariant s.0 s.1

pub offset_bounds-counters-k : goal.offset_bounds-counters-k
offset_bounds-counters-k c = let s = c.in-Some.ensures.steps in omega (arith, visit-lt c.loop-k.invariant s.0 s.1)

pub returns-then-counters-k : goal.returns-then-counters-k
returns-then-counters-k c =
    let v = c.loop-k.invariant in
    let s = c.in-Some.ensures.steps in
    let m = visit-lt v s.0 s.1 in
    all-fails _ 64 c.in-Some.k m refl (rw (visit-has v s.0 s.1, count-at _ _ m) (lt-leb _ _ c.if-counters-k.true))

pub loop-k-preserved : goal.loop-k-preserved
loop-k-preserved c =
    let v = c.loop-k.invariant in
    let s = c.in-Some.ensures.steps in
    visited-turn v s.0 s.1 s.2 (λ j n p. p) (rw (visit-has v s.0 s.1, count-at _ _ (visit-lt v s.0 s.1)) (le-leb _ _ c.if-counters-k.false))

pub returns : goal.returns
returns c = sym (true-all _ 64 (visited-end c.loop-k.invariant c.in-None.ensures.steps.0))
