-- All fit, or the first whose two weights are too large together is the step.
use Rattle.std.proofs.Common.{rules, sym, ap, ◌∙◌}
use borrow.Author.Tests.{tests}
use Rattle.std.proofs.lemmas.Iterator.{YieldsList-from_slice, YieldsList-from_zip, IsFirst-from_position}
use Rattle.adding.specs.Answer.{place}
use Rattle.adding.proofs.adding.Laws.{Small, Large, first-large, all_fit}
use Rattle.adding.proofs.adding.unfit.Goals as goal

pub returns-then-all_fit : goal.returns-then-all_fit
returns-then-all_fit c = ap place (sym (all_fit _ c.args.first.now c.args.second.now (sym c.all_fit.ensures ∙ c.if-all_fit.true)))

pub returns : goal.returns
returns c =
    first-large c.args.first.now c.args.second.now c.requires c.position.result
    (IsFirst-from_position c.position.new.self _ c.position.result Large Small c.position.ensures.ran
    (YieldsList-from_zip (YieldsList-from_slice c.args.first.now (cc)) (YieldsList-from_slice c.args.second.now (cc))) (λ x q k. search (rules, tests)) (λ x q k. search (rules, tests)))
