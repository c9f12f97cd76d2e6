-- As many words, and each the chart's own.
use borrow.Author.Tests.{ne_eqb}
use Rattle.sets.proofs.Below.{never}
use Rattle.index.proofs.consulting.Laws.{same_index}
use Rattle.index.proofs.consulting.is_index.Goals as goal

pub returns-then-index-ne64 : goal.returns-then-index-ne64
returns-then-index-ne64 c = (rw (ne_eqb _ 64 c.if-index-ne64.true), λ e. never e)

pub returns : goal.returns
returns c =
    let own = c.leaving_of-own in
    (same_index _ _ c.args.index.now own.result _ c.if-index-ne64.false own.ensures.0 c.are_same.ensures, λ e. own.ensures.1)
