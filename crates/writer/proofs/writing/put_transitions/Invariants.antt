use Rattle.writer.specs.Writing.{transition_in}
use Rattle.writer.proofs.writing.Laws.{Passed, record_in}
use Rattle.writer.proofs.writing.put_transitions.Given as goal

abbrev pub invariant-loop-t : goal.invariant-loop-t
invariant-loop-t l = Passed (record_in (transition_in l.chart.sources l.chart.targets l.chart.on l.chart.off l.chart.wait)) l.initial.bytes l.at l.chart.transitions l.bytes l.end l.t
