-- The writer's answer as a number of refusal, 0 if accepted, and the length written, 0 if refused.
use Rattle.std.specs.Prelude.{ℕ, Result, Ok, Err}
use Rattle.refusals.specs.declared.Refusal.{Refusal}
use Rattle.refusals.specs.Refusals.{number}

pub record Writing : Type 0 where
  pub code : ℕ
  pub length : ℕ

abbrev pub writing_of : Result ℕ Refusal → Writing
writing_of (Ok n) = record { code = 0; length = n }
writing_of (Err e) = record { code = number e; length = 0 }
