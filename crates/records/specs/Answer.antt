-- An answer of the reader taken by itself.
use Rattle.std.specs.Prelude.{ℕ}
use Rattle.reader.specs.Answer.{Next}

-- with the place and the kind before for the next question
pub record Found : Type 0 where
  pub answer : Next
  pub at : ℕ
  pub before : ℕ
