-- The chart's own number; a sound chart has 64 transitions at most.
use Rattle.std.proofs.Common.{sym}
use Rattle.chart.proofs.held.Sound.{sound}
use Rattle.tally.proofs.weighing.Laws.{chart-refused, other_kind}
use Rattle.tally.proofs.weighing.weigh.Goals as goal

pub returns-in_err-check-clause-answer : goal.returns-in_err-check-clause-answer
returns-in_err-check-clause-answer c = chart-refused c.args.chart.now c.args.weights.now _ _ c.from_residual.ensures.1 c.in_err-check.ensures

pub returns-in_err-check-clause-kind : goal.returns-in_err-check-clause-kind
returns-in_err-check-clause-kind c = other_kind c.args.chart.now _ _ c.from_residual.ensures.1 c.in_err-check.ensures

pub unbalanced-requires : goal.unbalanced-requires
unbalanced-requires c = (sound c.args.chart.now (sym c.in_ok-check.ensures)).limits.transitions
