-- What a start where the run is to lie once answered: its number, and the run's words.
use Rattle.std.specs.Prelude.{ℕ}
use Rattle.run.specs.Answer.{Words}

pub record Started : Type 0 where
  pub code : ℕ
  pub words : Words
