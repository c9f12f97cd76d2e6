-- What the lent entry answers a caller that holds its run by value.
use Rattle.std.specs.Prelude.{Result, Ok, Err}
use Rattle.refusals.specs.declared.Refusal.{Refusal}
use Rattle.run.specs.declared.run.Run.{Run}
use Rattle.cycle.specs.Answer.{Cycled, cycled_as}
use Rattle.cycle.specs.declared.cycling.Cycle.{Cycle}

-- the answer with the run, which is the one given where it was refused
abbrev pub by_value : Run → Result (Cycle × Run) Refusal → Cycled
by_value given (Ok (c, run)) = cycled_as (Ok c) run
by_value given (Err e) = cycled_as (Err e) given
