-- The first test that refuses, and all before it passed.
use Rattle.fields.proofs.Exits.{exit-first}
use Rattle.chart.specs.Held.{held_code, steps_code}
use Rattle.chart.proofs.held.Laws.{largest-code, mark-tells}
use Rattle.chart.proofs.chart.Chart.check.Goals as goal

pub returns-in_err-unless : goal.returns-in_err-unless
unfolding held_code
returns-in_err-unless c = exit-first _ _ _ c.from_residual.ensures.1 (rw c.in_limits.ensures at c.in_err-unless.ensures)

pub returns-in_err-unless-2 : goal.returns-in_err-unless-2
unfolding held_code steps_code
returns-in_err-unless-2 c =
    rw (← c.in_limits.ensures, ← c.in_ok-unless.ensures, ← largest-code 1 c.args.self.now.steps c.args.self.now.initial, ← c.largest_mark-mark.ensures, ← c.step_fits.ensures) (exit-first _ _ _ c.from_residual-in_err-unless-2.ensures.1 c.in_err-unless-2.ensures)

pub returns-in_err-check_actions : goal.returns-in_err-check_actions
unfolding held_code steps_code
returns-in_err-check_actions c =
    rw (← c.in_limits.ensures, ← c.in_ok-unless.ensures, ← largest-code 1 c.args.self.now.steps c.args.self.now.initial, ← c.largest_mark-mark.ensures, ← c.step_fits.ensures, ← c.in_ok-unless-2.ensures)
    (exit-first _ _ _ c.from_residual-in_err-check_actions.ensures.1 c.in_err-check_actions.ensures)

pub returns-in_err-check_transitions : goal.returns-in_err-check_transitions
unfolding held_code steps_code
returns-in_err-check_transitions c =
    rw (← c.in_limits.ensures, ← c.in_ok-unless.ensures, ← largest-code 1 c.args.self.now.steps c.args.self.now.initial, ← c.largest_mark-mark.ensures, ← c.step_fits.ensures, ← c.in_ok-unless-2.ensures, ← c.in_ok-check_actions.ensures)
    (exit-first _ _ _ c.from_residual-in_err-check_transitions.ensures.1 c.in_err-check_transitions.ensures)

pub returns-in_err-check_blocks : goal.returns-in_err-check_blocks
unfolding held_code steps_code
returns-in_err-check_blocks c =
    rw (← c.in_limits.ensures, ← c.in_ok-unless.ensures, ← largest-code 1 c.args.self.now.steps c.args.self.now.initial, ← c.largest_mark-mark.ensures, ← c.step_fits.ensures, ← c.in_ok-unless-2.ensures, ← c.in_ok-check_actions.ensures, ← c.in_ok-check_transitions.ensures)
    (exit-first _ _ _ c.from_residual-in_err-check_blocks.ensures.1 c.in_err-check_blocks.ensures)

pub returns-in_err-check_cases : goal.returns-in_err-check_cases
unfolding held_code steps_code
returns-in_err-check_cases c =
    rw (← c.in_limits.ensures, ← c.in_ok-unless.ensures, ← largest-code 1 c.args.self.now.steps c.args.self.now.initial, ← c.largest_mark-mark.ensures, ← c.step_fits.ensures, ← c.in_ok-unless-2.ensures, ← c.in_ok-check_actions.ensures, ← c.in_ok-check_transitions.ensures, ← c.in_ok-check_blocks.ensures)
    (exit-first _ _ _ c.from_residual-in_err-check_cases.ensures.1 c.in_err-check_cases.ensures)

pub returns-in_err-unless-3 : goal.returns-in_err-unless-3
unfolding held_code steps_code
returns-in_err-unless-3 c =
    rw (← c.in_limits.ensures, ← c.in_ok-unless.ensures, ← largest-code 1 c.args.self.now.steps c.args.self.now.initial, ← c.largest_mark-mark.ensures, ← c.step_fits.ensures, ← c.in_ok-unless-2.ensures, ← c.in_ok-check_actions.ensures, ← c.in_ok-check_transitions.ensures, ← c.in_ok-check_blocks.ensures, ← c.in_ok-check_cases.ensures, ← c.edition_fits.ensures)
    (exit-first _ _ _ c.from_residual-in_err-unless-3.ensures.1 c.in_err-unless-3.ensures)

pub returns-in_err-unless-4 : goal.returns-in_err-unless-4
unfolding held_code steps_code
returns-in_err-unless-4 c =
    let k = c.args.self.now in
    let mark = mark-tells k.steps k.initial (rw (c.step_fits.ensures, c.largest_mark-mark.ensures) at c.in_ok-unless-2.ensures) in
    rw (← c.in_limits.ensures, ← c.in_ok-unless.ensures, ← largest-code 1 c.args.self.now.steps c.args.self.now.initial, ← mark, ← c.largest_mark-mark.ensures, ← c.step_fits.ensures, ← c.in_ok-unless-2.ensures, ← c.in_ok-check_actions.ensures, ← c.in_ok-check_transitions.ensures, ← c.in_ok-check_blocks.ensures, ← c.in_ok-check_cases.ensures, ← c.edition_fits.ensures, ← c.in_ok-unless-3.ensures) (exit-first _ _ _ c.from_residual-in_err-unless-4.ensures.1 c.in_err-unless-4.ensures)

pub returns : goal.returns
unfolding held_code steps_code
returns c =
    let k = c.args.self.now in
    let mark = mark-tells k.steps k.initial (rw (c.step_fits.ensures, c.largest_mark-mark.ensures) at c.in_ok-unless-2.ensures) in
    rw (← c.in_limits.ensures, ← c.in_ok-unless.ensures, ← largest-code 1 c.args.self.now.steps c.args.self.now.initial, ← mark, ← c.largest_mark-mark.ensures, ← c.step_fits.ensures, ← c.in_ok-unless-2.ensures, ← c.in_ok-check_actions.ensures, ← c.in_ok-check_transitions.ensures, ← c.in_ok-check_blocks.ensures, ← c.in_ok-check_cases.ensures, ← c.edition_fits.ensures, ← c.in_ok-unless-3.ensures, ← c.in_ok-unless-4.ensures, ← c.timed_twice.ensures) c.unless-5.ensures
