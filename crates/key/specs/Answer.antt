-- The answer of a turn of the key: its number, and the run as it is left.
use Rattle.std.specs.Prelude.{ℕ, Result}
use Rattle.refusals.specs.declared.Refusal.{Refusal}
use Rattle.refusals.specs.Refusals.{code_of}
use Rattle.run.specs.declared.run.Run.{Run}

pub record Turned : Type 0 where
  pub code : ℕ
  pub run : Run

abbrev pub turned_by : {A : Type 0} → Result A Refusal → Run → Turned
turned_by answer r = record { code = code_of answer; run = r }
