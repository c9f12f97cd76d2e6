-- The initial steps passed; a count beyond the table is as good as its length.
use Prim.Native.Nat.{min}
use lib.ListN.{length}
use mathlib.Core.Path.{◌≡◌, refl, ◌∙◌}
use native.Mathlib.Omega.{arith}
use Rattle.sets.proofs.Members.{collect-start, collect-turn}
use Rattle.chart.specs.Initial.{initial_set}
use Rattle.chart.proofs.initial.Laws.{set-within}
use Rattle.chart.proofs.chart.Chart.initial_set.Goals as goal

pub loop-k-init : goal.loop-k-init
loop-k-init c = collect-start _

pub loop-k-preserved : goal.loop-k-preserved
loop-k-preserved c = collect-turn _ _ _ _ _ (omega arith) c.loop-k.invariant refl c.with_if-set.ensures

pub returns : goal.returns
unfolding initial_set
returns c =
    let k = c.args.self.now in
    let n : c.loop-k.k ≡ min k.steps (length k.initial) = omega (arith, c.min-k-end.ensures) in
    rw n at c.loop-k.invariant ∙ set-within k.steps k.initial
