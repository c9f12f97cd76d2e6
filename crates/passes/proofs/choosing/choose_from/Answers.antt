-- The choice after the consulted transitions passed.
use Rattle.std.proofs.Common.{refl, rules}
use Rattle.sets.proofs.Visits.{led-start, led-turn, led-end, visit-lt}
use Rattle.choice.specs.Choice.{chosen_from}
use Rattle.passes.proofs.choosing.choose_from.Goals as goal

pub loop-t-init : goal.loop-t-init
unfolding chosen_from
loop-t-init c = rw (c.into_iter-t-iterator.ensures.into_iter_gives, c.each-t-items.ensures, c.none-choice.ensures) (led-start (search rules) refl)

pub transition-transition-requires : goal.transition-transition-requires
transition-transition-requires c = let s = c.in-Some.ensures.steps in visit-lt c.loop-t.invariant.visited s.0 s.1

pub loop-t-preserved : goal.loop-t-preserved
loop-t-preserved c =
    let s = c.in-Some.ensures.steps in
    led-turn c.loop-t.invariant s.0 s.1 s.2 (rw c.transition-transition.ensures at c.choose_one-choice.ensures)

pub returns : goal.returns
returns c = led-end c.loop-t.invariant c.in-None.ensures.steps.0
