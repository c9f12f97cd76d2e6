-- Under hold none; else the choice after the transitions passed.
use Rattle.std.proofs.Common.{◌∙◌, arith, ne_eqb}
use Rattle.sets.proofs.Loops.{turns-start, turns_more, turns-end}
use Rattle.choice.specs.Choice.{chosen}
use Rattle.passes.proofs.choosing.choose.Goals as goal

pub loop-t-init : goal.loop-t-init
loop-t-init c = c.none-choice.ensures ∙ turns-start _ _

pub loop-t-preserved : goal.loop-t-preserved
loop-t-preserved c = turns_more _ _ _ _ _ c.loop-t.invariant (rw c.transition-transition.ensures at c.choose_one-choice.ensures)

pub returns : goal.returns
unfolding chosen
returns c = rw (ne_eqb _ 1 c.if-run-eq1.false) (turns-end _ _ _ c.loop-t.t _ c.loop-t.invariant (omega arith) (omega arith))
