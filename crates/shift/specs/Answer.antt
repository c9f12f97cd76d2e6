-- What a shift answers, in one record with the number; and the code's answer read so, with all that it leaves.
use Rattle.std.specs.Prelude.{ℕ, List, ℤ, Result, Ok, Err}
use Rattle.refusals.specs.Refusals.{number}
use Rattle.run.specs.declared.run.Run.{Run}
use Rattle.cycle.specs.declared.calling.Stopped.{Stopped}

-- the number, how many cycles were accepted, and the run there
pub record Shifted : Type 0 where
  pub code : ℕ
  pub accepted : ℕ
  pub run : Run

-- with the run, the activity words and the outputs where they were lent
abbrev pub shifted_as : Result ℕ Stopped → Run → List ℕ → List ℤ → Shifted × List ℕ × List ℤ
shifted_as (Ok n) run activities out = (record { code = 0; accepted = n; run = run }, activities, out)
shifted_as (Err s) run activities out = (record { code = number s.refusal; accepted = s.accepted; run = run }, activities, out)
