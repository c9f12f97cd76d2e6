-- Digits, blanks and a number that fits, or not.
use Rattle.std.proofs.Common.{ℕ, ◌≡◌, refl, rules}
use borrow.Author.Tests.{tests}
use Rattle.weights.specs.Words.{is_of, leading}
use Rattle.weights.specs.Answer.{Blank, Digit}
use Rattle.weights.proofs.words.Laws.{Read, says_nothing, says-weight, no_digit, more-behind, too_large}
use Rattle.weights.proofs.words.word_says.Goals.{After-value_of-number, else-n-ne0-via-then-n-ne0+then-blanks-tail+else-number-le65535, else-n-ne0-via-then-n-ne0+else-blanks-tail, else-n-ne0-via-else-n-ne0}
use Rattle.weights.proofs.words.word_says.Goals as goal

pub returns-then-is_empty : goal.returns-then-is_empty
returns-then-is_empty c = says_nothing _ (search (rules, tests))

-- what is read, with so many blanks behind it
read : (c : After-value_of-number) {m : ℕ} → m ≡ leading (is_of Blank) c.split_at.result.1.now → Read c.args.word.now c.split_at.result.0.now c.split_at.result.1.now c.leading-n.result m c.value_of-number.result
read c b = record {
  some = search (rules, tests);
  front = c.leading-n.ensures.number (is_of Digit) (λ b r h. search (rules, tests));
  taken = c.split_at.ensures.front;
  count = c.split_at.ensures.front_len;
  left = c.split_at.ensures.back;
  blanks = b;
  number = c.value_of-number.ensures;
}

pub returns-then-number-le65535 : goal.returns-then-number-le65535
returns-then-number-le65535 c =
    let r = read (goal.at.returns-then-number-le65535 c).After-value_of-number c.blanks.ensures.number in
    says-weight r c.if-n-ne0.true c.if-blanks-tail.true c.if-number-le65535.true

pub returns : goal.returns
returns c =
    elim c.else-n-ne0.branch [
      | else-n-ne0-via-then-n-ne0+then-blanks-tail+else-number-le65535 w ↦
          too_large (read (goal.at.returns c).After-value_of-number w.blanks.ensures.number) w.if-n-ne0.true w.if-blanks-tail.true w.if-number-le65535.false
      | else-n-ne0-via-then-n-ne0+else-blanks-tail w ↦
          more-behind (read (goal.at.returns c).After-value_of-number w.blanks.ensures.number) w.if-n-ne0.true w.if-blanks-tail.false
      | else-n-ne0-via-else-n-ne0 w ↦ no_digit (read (goal.at.returns c).After-value_of-number refl) w.if-n-ne0.false
    ]
