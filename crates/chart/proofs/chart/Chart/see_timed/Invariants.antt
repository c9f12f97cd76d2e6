use Rattle.chart.proofs.held.Timed.{Visiting}
use Rattle.chart.proofs.chart.Chart.see_timed.Given as goal

abbrev pub invariant-loop-k : goal.invariant-loop-k
invariant-loop-k l = Visiting l.self.blockaction l.self.qualifier l.seen l.again l.at l.left l.k-iterator.rest
