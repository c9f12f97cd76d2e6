-- Where all pass there is no number; where one does not, no transition before the first is refused.
use native.Mathlib.Nat.{le_antisymm}
use Rattle.refusals.proofs.Laws.{number-some}
use Rattle.fields.proofs.Exits.{exit-code}
use mathlib.Core.Path.{sym, ◌∙◌}
use Rattle.sets.proofs.Loops.{first-start, first-turn, first_found, zero-first}
use Rattle.chart.specs.Held.{transition_code_at, transitions_code}
use Rattle.chart.proofs.chart.Chart.check_transitions.Goals as goal

pub returns-then-transitions_pass : goal.returns-then-transitions_pass
unfolding transitions_code
returns-then-transitions_pass c =
    let k = c.args.self.now in
    sym (zero-first (transition_code_at k.steps k.actions k.sources k.targets k.on k.off k.wait) k.transitions (sym c.transitions_pass.ensures ∙ c.if-transitions_pass.true))

pub loop-t-init : goal.loop-t-init
loop-t-init c = first-start _

pub returns-in_err-check : goal.returns-in_err-check
unfolding transitions_code
returns-in_err-check c =
    exit-code _ _ c.from_residual.ensures.1
    ∙ first_found _ c.loop-t.t _ _ c.loop-t.invariant c.loop-t-test.true (rw c.transition.ensures at c.in_err-check.ensures) (number-some _)

pub loop-t-preserved : goal.loop-t-preserved
loop-t-preserved c = first-turn _ _ c.loop-t.invariant (sym (rw c.transition.ensures at c.in_ok-check.ensures))

pub returns : goal.returns
unfolding transitions_code
returns c = rw (le_antisymm c.loop-t-test.false c.loop-t.auto.t-end) (sym c.loop-t.invariant)
