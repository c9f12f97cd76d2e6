-- The parts as they are taken.
use Rattle.std.proofs.Common.{rules, ◌∙◌}
use borrow.Author.Tests.{tests}
use Rattle.weights.specs.Answer.{Text}
use Rattle.weights.specs.Words.{is_of}
use Rattle.weights.proofs.words.Laws.{says-line}
use Rattle.weights.proofs.words.says.Goals as goal

pub returns : goal.returns
returns c = c.word_says.ensures ∙ says-line _ _ _ (c.leading.ensures.number (is_of Text) (λ b r h. search (rules, tests))) c.blanks.ensures.number
