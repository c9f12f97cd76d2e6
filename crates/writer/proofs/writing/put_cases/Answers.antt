-- The records passed are written.
use mathlib.Core.Path.{refl}
use native.Mathlib.Omega.{arith}
use Rattle.writer.specs.Writing.{case_in}
use Rattle.writer.proofs.writing.Laws.{passed-kept, passed-room, passed-turn, passed-all, records-start}
use Rattle.writer.proofs.writing.put_cases.Goals as goal

pub loop-i-init : goal.loop-i-init
loop-i-init c = let k = c.args.chart.now in records-start (case_in k.casestep k.signal k.expected) 7 c.args.bytes.now c.args.at k.cases (λ i. refl) c.requires.1

pub put_case-end-requires : goal.put_case-end-requires
put_case-end-requires c = passed-room c.loop-i.invariant (omega arith) refl

pub loop-i-preserved : goal.loop-i-preserved
loop-i-preserved c = passed-turn c.loop-i.invariant (omega arith) (rw c.case.ensures at c.put_case-end.ensures)

pub shape_of-bytes : goal.shape_of-bytes
shape_of-bytes c = passed-kept c.loop-i.invariant

pub returns : goal.returns
returns c = passed-all c.loop-i.invariant (omega arith)
