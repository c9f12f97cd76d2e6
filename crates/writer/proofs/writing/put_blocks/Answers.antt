-- The records passed are written.
use mathlib.Core.Path.{refl}
use native.Mathlib.Omega.{arith}
use Rattle.writer.specs.Writing.{block_in}
use Rattle.writer.proofs.writing.Laws.{passed-kept, passed-room, passed-turn, passed-all, records-start}
use Rattle.writer.proofs.writing.put_blocks.Goals as goal

pub loop-i-init : goal.loop-i-init
loop-i-init c = let k = c.args.chart.now in records-start (block_in k.blockstep k.blockaction k.qualifier k.duration) 11 c.args.bytes.now c.args.at k.blocks (λ i. refl) c.requires.1

pub put_block-end-requires : goal.put_block-end-requires
put_block-end-requires c = passed-room c.loop-i.invariant (omega arith) refl

pub loop-i-preserved : goal.loop-i-preserved
loop-i-preserved c = passed-turn c.loop-i.invariant (omega arith) (rw c.block.ensures at c.put_block-end.ensures)

pub shape_of-bytes : goal.shape_of-bytes
shape_of-bytes c = passed-kept c.loop-i.invariant

pub returns : goal.returns
returns c = passed-all c.loop-i.invariant (omega arith)
