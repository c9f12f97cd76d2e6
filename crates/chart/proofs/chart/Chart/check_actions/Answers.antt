-- The largest output tells.
use mathlib.Core.Path.{◌∙◌}
use native.Mathlib.Omega.{arith}
use Rattle.chart.specs.Held.{actions_code}
use Rattle.chart.proofs.held.Laws.{largest-code, largest-front}
use Rattle.chart.proofs.chart.Chart.check_actions.Goals as goal

pub returns : goal.returns
unfolding actions_code
returns c =
    let k = c.args.self.now in
    c.unless.ensures ∙ rw (c.action_fits.ensures, c.largest-output.ensures, largest-front k.actions k.output (omega arith)) (largest-code 31 _ _)
