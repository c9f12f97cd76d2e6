-- No transition passed is unbalanced.
use Rattle.std.proofs.Common.{◌≡◌, sym, arith}
use Rattle.sets.proofs.Loops.{first-start, first-turn, first_found}
use Rattle.tally.specs.Weighing.{unbalanced}
use Rattle.tally.proofs.weighing.Laws.{is-balanced, is-unbalanced}
use Rattle.tally.proofs.weighing.unbalanced.Goals as goal

pub loop-t-init : goal.loop-t-init
loop-t-init c = first-start _

pub returns-then-weight_in : goal.returns-then-weight_in
unfolding unbalanced
returns-then-weight_in c =
    let l = c.loop-t in
    first_found _ l.t _ _ l.invariant c.loop-t-test.true
    (is-unbalanced _ _ _ _ c.weight_in.ensures c.weight_in-in-loop-t.ensures c.if-weight_in.true) (λ z. omega arith)

pub loop-t-preserved : goal.loop-t-preserved
loop-t-preserved c =
    let l = c.loop-t in
    first-turn _ l.t l.invariant (is-balanced _ _ _ _ c.weight_in.ensures c.weight_in-in-loop-t.ensures c.if-weight_in.false)

pub returns : goal.returns
unfolding unbalanced
returns c = let end : c.loop-t.t ≡ c.args.chart.now.transitions = omega arith in rw (← end) (sym c.loop-t.invariant)
