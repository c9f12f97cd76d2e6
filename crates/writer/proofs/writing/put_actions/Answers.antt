-- The records passed are written.
use mathlib.Core.Path.{refl}
use native.Mathlib.Omega.{arith}
use Rattle.writer.specs.Writing.{action_in}
use Rattle.writer.proofs.writing.Laws.{passed-kept, passed-room, passed-turn, passed-all, records-start}
use Rattle.writer.proofs.writing.put_actions.Goals as goal

pub loop-a-init : goal.loop-a-init
loop-a-init c = let k = c.args.chart.now in records-start (action_in k.output k.value) 9 c.args.bytes.now c.args.at k.actions (λ i. refl) c.requires.1

pub put_action-end-requires : goal.put_action-end-requires
put_action-end-requires c = passed-room c.loop-a.invariant (omega arith) refl

pub loop-a-preserved : goal.loop-a-preserved
loop-a-preserved c = passed-turn c.loop-a.invariant (omega arith) (rw c.action.ensures at c.put_action-end.ensures)

pub shape_of-bytes : goal.shape_of-bytes
shape_of-bytes c = passed-kept c.loop-a.invariant

pub returns : goal.returns
returns c = passed-all c.loop-a.invariant (omega arith)
