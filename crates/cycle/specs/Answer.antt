-- What a start, a cycle and calls made one after the other answer, in one record with the number; and the code's answers read so.
use Rattle.std.specs.Prelude.{ℕ, List, Result, Ok, Err}
use Rattle.refusals.specs.Refusals.{number}
use Rattle.refusals.specs.declared.Refusal.{Refusal}
use Rattle.run.specs.Run.{no_run}
use Rattle.run.specs.Answer.{Words}
use Rattle.run.specs.declared.run.Run.{Run}
use Rattle.passes.specs.Explaining.{no_reasons}
use Rattle.cycle.specs.declared.cycling.Cycle.{Cycle}

-- the number, the transitions taken, why each of 64 is not (document 02, request vi), and the run
pub record Cycled : Type 0 where
  pub code : ℕ
  pub taken : ℕ
  pub reasons : List ℕ
  pub run : Run

-- a cycle's answer with the run that it leaves
abbrev pub cycled_as : Result Cycle Refusal → Run → Cycled
cycled_as (Ok c) run = record { code = 0; taken = c.taken; reasons = c.reasons; run = run }
cycled_as (Err e) run = record { code = number e; taken = 0; reasons = no_reasons; run = run }

-- a start's: "A refused start returns an all-zero run"
abbrev pub started_as : Result Run Refusal → Cycled
started_as (Ok run) = record { code = 0; taken = 0; reasons = no_reasons; run = run }
started_as (Err e) = record { code = number e; taken = 0; reasons = no_reasons; run = no_run }

-- what stopped calls, how many were accepted, the transitions that the last one took, and the run's words there
pub record Went : Type 0 where
  pub code : ℕ
  pub accepted : ℕ
  pub taken : ℕ
  pub words : Words
