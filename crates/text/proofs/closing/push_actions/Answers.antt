use Rattle.std.proofs.Common.{ℕ, ◌+◌, arith, ap, ◌∙◌}
use Rattle.chart.specs.declared.chart.Chart.{Chart}
use Rattle.sets.proofs.Loops.{turns-start, turns_more, turns-end}
use Rattle.text.proofs.closing.push_actions.Goals as goal

pub loop-k-init : goal.loop-k-init
loop-k-init c = (c.requires.1, turns-start _ _)

pub push_action-requires : goal.push_action-requires
push_action-requires c = omega arith

pub loop-k-preserved : goal.loop-k-preserved
loop-k-preserved c =
    let e = c.push_action.ensures in
    (ap (λ (d : Chart). d.actions) e ∙ ap (λ (n : ℕ). n + 1) c.loop-k.invariant.0, turns_more _ _ _ _ _ c.loop-k.invariant.1 e)

pub returns : goal.returns
returns c = turns-end _ _ _ _ _ c.loop-k.invariant.1 c.loop-k-test.false c.loop-k.auto.k-end
