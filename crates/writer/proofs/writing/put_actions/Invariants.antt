use Rattle.writer.specs.Writing.{action_in}
use Rattle.writer.proofs.writing.Laws.{Passed, record_in}
use Rattle.writer.proofs.writing.put_actions.Given as goal

abbrev pub invariant-loop-a : goal.invariant-loop-a
invariant-loop-a l = Passed (record_in (action_in l.chart.output l.chart.value)) l.initial.bytes l.at l.chart.actions l.bytes l.end l.a
