-- The rest of the set are the timed blocks that are still to be visited.
use Prim.Native.Nat.{◌+◌, ◌-◌, ◌≤◌}
use mathlib.Core.Path.{refl}
use borrow.Author.Rules.{rules}
use native.Mathlib.Omega.{arith}
use Rattle.chart.proofs.held.Timed.{visiting-start, visiting-at, visiting-turn, visiting-end}
use Rattle.chart.proofs.chart.Chart.see_timed.Goals.{In-Some}
use Rattle.chart.proofs.chart.Chart.see_timed.Goals as goal

pub timed_among-requires : goal.timed_among-requires
timed_among-requires c = (omega arith, omega arith)

pub loop-k-init : goal.loop-k-init
loop-k-init c = visiting-start c.requires.2 c.args.left (omega arith) (rw (c.into_iter-k-iterator.ensures.into_iter_gives, c.each-k-items.ensures) c.timed_among.ensures)

place : (c : In-Some) → (1 ≤ c.args.at + c.in-Some.k) × (c.args.at + c.in-Some.k ≤ 256)
place c =
    let s = c.in-Some.ensures.steps in
    let p = visiting-at c.loop-k.invariant s.0 s.1 in
    let r = c.requires in
    (omega arith, omega arith)

pub overflow_add-a : goal.overflow_add-a
overflow_add-a c = let p = place (goal.at.overflow_add-a c).In-Some in omega arith

pub overflow_sub-a : goal.overflow_sub-a
overflow_sub-a c = (place (goal.at.overflow_sub-a c).In-Some).0

pub bounds-self-at : goal.bounds-self-at
bounds-self-at c = let p = place (goal.at.bounds-self-at c).In-Some in omega arith

pub loop-k-preserved : goal.loop-k-preserved
loop-k-preserved c =
    let s = c.in-Some.ensures.steps in
    let p = place (goal.at.loop-k-preserved c).In-Some in
    visiting-turn c.loop-k.invariant s.0 s.1 (c.args.at + c.in-Some.k - 1) (omega arith) s.2 refl (search rules)

pub returns : goal.returns
returns c = visiting-end c.loop-k.invariant c.in-None.ensures.steps.0
