-- What the blocks passed ask.
use Rattle.std.proofs.Common.{◌≡◌, min, sym, ◌∙◌, arith}
use Rattle.acting.proofs.Laws.{none-asked, one-asked}
use Rattle.passes.proofs.rests.Laws.{rest_at}
use Rattle.passes.proofs.asking.ask_blocks.Goals as goal

pub loop-i-init : goal.loop-i-init
loop-i-init c = c.none-asked.ensures ∙ none-asked _ _ _ _ _ _ _

pub loop-i-preserved : goal.loop-i-preserved
loop-i-preserved c =
    let h = c.args.chart.now in
    let i = c.loop-i.i in
    one-asked _ _ _ _ _ _ _ i _ _ _ _ _ c.loop-i.invariant (sym (rest_at 64 h.blockstep i)) (sym (rest_at 32 h.blockaction i))
    (rw c.block-block.ensures at c.asks-request.ensures) (rw c.block-block.ensures at c.put-asked.ensures)

pub returns : goal.returns
returns c = let e : c.loop-i.i ≡ min c.args.chart.now.blocks 256 = omega arith in rw (← e) c.loop-i.invariant
