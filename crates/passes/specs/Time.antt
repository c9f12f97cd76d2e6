-- 1. "Elapsed time is the new reading of the free-running 32-bit millisecond clock minus the last, modulo 2^32. .. Every step counter of an
-- active step and every timer of a latched action grows by it, stopping at 86,400,000."
use Rattle.std.specs.Prelude.{ℕ, ◌+◌, ◌-◌, ◌%◌, ◌^◌, cond, List, slice_index_or}
use Rattle.sets.specs.Sets.{has}
use Rattle.sets.specs.Loops.{table}
use Rattle.choice.specs.Choice.{held}
use Rattle.run.specs.Run.{counter, timer, longer_counter, longer_timer}
use Rattle.run.specs.declared.run.StepCounter.{StepCounter}
use Rattle.run.specs.declared.run.ActionTimer.{ActionTimer}

abbrev pub elapsed : ℕ → ℕ → ℕ
elapsed last new = (new + 2 ^ 32 - last) % 2 ^ 32

-- what of it counts for steps. Document 02, request (vii): "In a cycle under hold .. step counters stand still, while action timers run on."
abbrev pub step_time : ℕ → ℕ → ℕ
step_time hold e = cond (held hold) 0 e

-- the counter of a step that is not active is 0
abbrev pub grown_count : ℕ → ℕ → ℕ → StepCounter → ℕ
grown_count active e k c = cond (has active k) (longer_counter e c).0 0

-- the timer of an action that is not latched is 0
abbrev pub grown_time : ℕ → ℕ → ℕ → ActionTimer → ℕ
grown_time latched e k t = cond (has latched k) (longer_timer e t).0 0

abbrev pub grown_counts : List StepCounter → ℕ → ℕ → List ℕ
grown_counts counters active e = table (λ k. grown_count active e k (slice_index_or counters k (counter 0))) 64

abbrev pub grown_times : List ActionTimer → ℕ → ℕ → List ℕ
grown_times timers latched e = table (λ k. grown_time latched e k (slice_index_or timers k (timer 0))) 32
