-- Every case passed names a step and a signal and has an expectation exactly if the three tests say so.
use native.Mathlib.Nat.{le_antisymm}
use mathlib.Core.Path.{refl, ◌∙◌}
use native.Mathlib.Omega.{arith}
use Rattle.sets.proofs.Loops.{all_start, all-turn}
use Rattle.chart.proofs.held.Laws.{cases-columns}
use Rattle.chart.proofs.chart.Chart.check_cases.Goals as goal

pub loop-i-init : goal.loop-i-init
loop-i-init c = record { named = all_start _; heard = all_start _; fit = all_start _ }

pub loop-i-preserved : goal.loop-i-preserved
loop-i-preserved c =
    let l = c.loop-i in record {
      named = all-turn _ l.i l.invariant.named refl;
      heard = all-turn _ l.i l.invariant.heard refl;
      fit = all-turn _ l.i l.invariant.fit refl;
    }

pub returns : goal.returns
returns c =
    let k = c.args.self.now in
    let v = c.loop-i.invariant in
    let n = le_antisymm c.loop-i.auto.i-end c.loop-i-test.false in
    c.unless.ensures ∙ rw (v.named, v.heard, v.fit, n) (cases-columns k.cases k.steps k.actions k.casestep k.signal k.expected (omega arith))
