-- A digit more.
use Rattle.std.proofs.Common.{◌∙◌, arith}
use Rattle.weights.specs.Words.{value}
use Rattle.weights.proofs.words.Laws.{value-more}
use Rattle.weights.proofs.words.value_of.Goals as goal

pub loop-b-init : goal.loop-b-init
unfolding value
loop-b-init c = omega arith

pub loop-b-preserved : goal.loop-b-preserved
loop-b-preserved c =
    let l = c.loop-b in
    c.min-number.ensures ∙ value-more c.args.digits.now l.b-index _ c.saturating_sub.result l.invariant c.saturating_sub.ensures
