-- The position of the first byte that is not such.
use Rattle.std.proofs.Common.{rules, not, ◌∙◌}
use borrow.Author.Tests.{tests}
use Rattle.std.proofs.lemmas.Iterator.{YieldsList-from_slice}
use Rattle.std.proofs.lemmas.Iterator.Search.{position_from_yields_List}
use Rattle.weights.proofs.words.Laws.{leading-found}
use Rattle.weights.proofs.words.leading.Goals as goal

pub returns-clause-number : goal.returns-clause-number
returns-clause-number g c = λ p h.
    c.unwrap_or.ensures
    ∙ leading-found p c.args.s.now c.position.result
    (position_from_yields_List (λ b. not (p b)) _ _ c.position.result c.position.ensures.ran (YieldsList-from_slice c.args.s.now cc) (λ x b q k. search (rules, tests, h)))
