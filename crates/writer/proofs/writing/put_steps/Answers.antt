-- The records passed are written.
use mathlib.Core.Path.{refl}
use native.Mathlib.Omega.{arith}
use Rattle.writer.specs.Writing.{step_in}
use Rattle.writer.proofs.writing.Laws.{passed-kept, passed-room, passed-turn, passed-all, records-start}
use Rattle.writer.proofs.writing.put_steps.Goals as goal

pub loop-i-init : goal.loop-i-init
loop-i-init c = let k = c.args.chart.now in records-start (step_in k.initial) 5 c.args.bytes.now c.args.at k.steps (λ i. refl) c.requires.1

pub put_step-end-requires : goal.put_step-end-requires
put_step-end-requires c = passed-room c.loop-i.invariant (omega arith) refl

pub loop-i-preserved : goal.loop-i-preserved
loop-i-preserved c = passed-turn c.loop-i.invariant (omega arith) c.put_step-end.ensures

pub shape_of-bytes : goal.shape_of-bytes
shape_of-bytes c = passed-kept c.loop-i.invariant

pub returns : goal.returns
returns c = passed-all c.loop-i.invariant (omega arith)
