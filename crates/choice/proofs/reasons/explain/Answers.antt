-- The transitions taken so far and the reasons so far, with 0 beyond.
use mathlib.Core.Path.{◌∙◌}
use native.Mathlib.Omega.{arith}
use Rattle.choice.proofs.Laws.{none-explained, one-explained, all-explained}
use Rattle.choice.proofs.reasons.explain.Goals as goal

pub loop-t-init : goal.loop-t-init
loop-t-init c =
    let n = none-explained _ _ _ _ _ _ _ _ _ in
    record { choice = c.none-choice.ensures ∙ n.0; reasons = n.1 }

pub loop-t-preserved : goal.loop-t-preserved
loop-t-preserved c =
    let l = c.loop-t in
    let e = one-explained _ _ _ _ _ _ _ _ _ l.t _ _ _ _ l.invariant.choice l.invariant.reasons (omega arith)
    (rw (c.tested-targets.ensures, c.transition-transition.ensures) at (c.number_of.ensures ∙ c.reason_of-why.ensures)) (rw c.number_of.ensures (rw c.transition-transition.ensures at c.taking_if-choice.ensures)) in
    record { choice = e.0; reasons = e.1 }

pub returns : goal.returns
returns c = all-explained _ _ _ _ _ _ _ _ _ _ c.loop-t.t _ c.loop-t.invariant.reasons (omega arith)
