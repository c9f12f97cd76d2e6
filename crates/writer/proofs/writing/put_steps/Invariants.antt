use Rattle.writer.specs.Writing.{step_in}
use Rattle.writer.proofs.writing.Laws.{Passed, record_in}
use Rattle.writer.proofs.writing.put_steps.Given as goal

abbrev pub invariant-loop-i : goal.invariant-loop-i
invariant-loop-i l = Passed (record_in (step_in l.chart.initial)) l.initial.bytes l.at l.chart.steps l.bytes l.end l.i
