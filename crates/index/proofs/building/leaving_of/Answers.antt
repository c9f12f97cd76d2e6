-- The transitions passed are in the words of their sources.
use Rattle.std.proofs.Common.{◌≡◌, ◌^◌, min, get_or, sym, ap, ◌∙◌, arith}
use borrow.Author.Tests.{lt-ltb}
use Rattle.sets.specs.Loops.{all}
use Rattle.sets.proofs.Loops.{all_start, all-turn}
use Rattle.index.proofs.building.Laws.{none-entered, one-entered, all-entered}
use Rattle.index.proofs.building.leaving_of.Goals as goal

pub loop-t-init : goal.loop-t-init
loop-t-init c = (none-entered _, all_start _)

pub loop-t-preserved : goal.loop-t-preserved
loop-t-preserved c =
    (one-entered _ _ _ _ (omega arith) c.loop-t.invariant.0 c.enter.ensures.0, all-turn _ _ c.loop-t.invariant.1 (sym (lt-ltb (get_or c.args.sources.now c.loop-t.t 0) (2 ^ 64) c.enter.ensures.1)))

pub returns : goal.returns
returns c =
    let last : c.loop-t.t ≡ min c.args.n 64 = omega arith in
    (all-entered _ _ _ _ c.loop-t.invariant.0 last, sym (ap (all _) last) ∙ sym c.loop-t.invariant.1)
