-- Whether one of the steps passed is initial; a count beyond the table is as good as its length.
use native.Mathlib.Omega.{arith}
use Prim.Native.Nat.{min}
use lib.ListN.{length}
use mathlib.Core.Path.{◌≡◌, refl, ◌∙◌}
use Rattle.sets.proofs.Loops.{some-start, some_turn}
use Rattle.chart.specs.Held.{some_initial}
use Rattle.chart.proofs.held.Laws.{initial-within}
use Rattle.chart.proofs.chart.Chart.some_initial.Goals as goal

pub loop-i-init : goal.loop-i-init
loop-i-init c = some-start _

pub loop-i-preserved : goal.loop-i-preserved
loop-i-preserved c = some_turn _ c.loop-i.i c.loop-i.invariant refl

pub returns : goal.returns
unfolding some_initial
returns c =
    let k = c.args.self.now in
    let n : c.loop-i.i ≡ min k.steps (length k.initial) = omega (arith, c.min-i-end.ensures) in
    rw n at c.loop-i.invariant ∙ initial-within k.steps k.initial
