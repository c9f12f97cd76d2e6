-- The records passed are written.
use mathlib.Core.Path.{refl}
use native.Mathlib.Omega.{arith}
use Rattle.writer.specs.Writing.{transition_in}
use Rattle.writer.proofs.writing.Laws.{passed-kept, passed-room, passed-turn, passed-all, records-start}
use Rattle.writer.proofs.writing.put_transitions.Goals as goal

pub loop-t-init : goal.loop-t-init
loop-t-init c = let k = c.args.chart.now in records-start (transition_in k.sources k.targets k.on k.off k.wait) 40 c.args.bytes.now c.args.at k.transitions (λ i. refl) c.requires.1

pub put_transition-end-requires : goal.put_transition-end-requires
put_transition-end-requires c = passed-room c.loop-t.invariant (omega arith) refl

pub loop-t-preserved : goal.loop-t-preserved
loop-t-preserved c = passed-turn c.loop-t.invariant (omega arith) (rw c.transition.ensures at c.put_transition-end.ensures)

pub shape_of-bytes : goal.shape_of-bytes
shape_of-bytes c = passed-kept c.loop-t.invariant

pub returns : goal.returns
returns c = passed-all c.loop-t.invariant (omega arith)
