-- What stands at a place of a trace: a call, the end, or what is refused; and what the code answers, as that.
use Rattle.std.specs.Prelude.{ℕ, Option, Some, None, Result, Ok, Err}
use Rattle.refusals.specs.declared.Refusal.{Refusal}
use Rattle.trace.specs.declared.tracing.Call.{Call as Standing}
use Rattle.trace.specs.declared.tracing.Call.TheVariants.{Start as a_start, Cycle as a_cycle}

pub data Call : Type 0 where
  Start : (clock : ℕ) → Call
  Cycle : (clock inputs : ℕ) → Call
  End : Call
  Refused : Call

abbrev pub call_of : Result (Option Standing) Refusal → Call
call_of (Ok (Some (a_start clock))) = Start clock
call_of (Ok (Some (a_cycle clock inputs))) = Cycle clock inputs
call_of (Ok None) = End
call_of (Err e) = Refused
