-- What is answered, as the definitions have it, and the code's answers as such.
use Rattle.std.specs.Prelude.{ℕ, zero, suc, Option, Some, None, Result, Ok, Err, ◌≡◌}
use Rattle.refusals.specs.Refusals.{number}
use Rattle.adding.specs.declared.adding.Unadded.{Unadded}
use Rattle.adding.specs.declared.adding.Unadded.TheVariants.{Refused, TooLarge}

-- the number, and for 21 the step
pub record Added : Type 0 where
  pub code : ℕ
  pub step : ℕ

abbrev pub added_from : Result (Unit {0}) Unadded → Added
added_from (Ok x) = record { code = 0; step = 0 }
added_from (Err (Refused e)) = record { code = number e; step = 0 }
added_from (Err (TooLarge k)) = record { code = 21; step = k }

-- a step is named where the chart is not refused, and 21 without one would be the chart's own number
abbrev pub which : ℕ → Result (Unit {0}) Unadded → Type 0
which held (Ok x) = Unit {0}
which held (Err (Refused e)) = number e ≡ 21 → held ≡ 21
which held (Err (TooLarge k)) = held ≡ 0

-- the place that one more than it, or 0, tells
abbrev pub place : ℕ → Option ℕ
place zero = None
place (suc k) = Some k
