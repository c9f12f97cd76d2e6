-- The first test that refuses.
use Rattle.fields.proofs.Exits.{exit-first}
use Rattle.chart.proofs.chart.Chart.check_whole.Goals as goal

pub returns-in_err-unless : goal.returns-in_err-unless
returns-in_err-unless c = exit-first _ _ _ c.from_residual.ensures.1 (rw c.some_initial.ensures at c.in_err-unless.ensures)

pub returns : goal.returns
returns c = rw (← c.some_initial.ensures, ← c.in_ok-unless.ensures, ← c.timed_twice.ensures) c.unless-2.ensures
