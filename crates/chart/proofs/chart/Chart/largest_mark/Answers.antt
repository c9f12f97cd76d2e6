-- The first marks of the table.
use mathlib.Core.Path.{◌∙◌}
use native.Mathlib.Omega.{arith}
use Rattle.chart.proofs.held.Laws.{largest-front}
use Rattle.chart.proofs.chart.Chart.largest_mark.Goals as goal

pub returns : goal.returns
returns c = c.largest.ensures ∙ largest-front c.args.self.now.steps c.args.self.now.initial (omega arith)
