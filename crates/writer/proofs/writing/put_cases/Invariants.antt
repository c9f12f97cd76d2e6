use Rattle.writer.specs.Writing.{case_in}
use Rattle.writer.proofs.writing.Laws.{Passed, record_in}
use Rattle.writer.proofs.writing.put_cases.Given as goal

abbrev pub invariant-loop-i : goal.invariant-loop-i
invariant-loop-i l = Passed (record_in (case_in l.chart.casestep l.chart.signal l.chart.expected)) l.initial.bytes l.at l.chart.cases l.bytes l.end l.i
