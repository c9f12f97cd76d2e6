use Rattle.writer.specs.Writing.{block_in}
use Rattle.writer.proofs.writing.Laws.{Passed, record_in}
use Rattle.writer.proofs.writing.put_blocks.Given as goal

abbrev pub invariant-loop-i : goal.invariant-loop-i
invariant-loop-i l = Passed (record_in (block_in l.chart.blockstep l.chart.blockaction l.chart.qualifier l.chart.duration)) l.initial.bytes l.at l.chart.blocks l.bytes l.end l.i
