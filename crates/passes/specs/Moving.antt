-- 3. "A step entered or inactive has counter 0. For each case on a left step, the signal
-- of this cycle is compared: equal sets its good mark, different its bad mark."
use Rattle.std.specs.Prelude.{ℕ, ◌-◌, Bool, cond, not, ◌&&◌, List, length, ◌==◌, nat_lt, slice_index}
use Rattle.std.specs.Bool.{beq}
use Rattle.sets.specs.Loops.{table}
use Rattle.sets.specs.Sets.{has, collect}
use Rattle.acting.specs.Acting.{kept_count}
use Rattle.run.specs.Run.{counter, timer}
use Rattle.run.specs.declared.run.StepCounter.{StepCounter}
use Rattle.run.specs.declared.run.ActionTimer.{ActionTimer}
use Rattle.passes.specs.declared.moving.Marks.{Marks}

abbrev pub settled_counters : List ℕ → ℕ → List StepCounter
settled_counters counts kept = table (λ k. counter (kept_count kept k (slice_index counts k))) 64

abbrev pub settled_timers : List ℕ → ℕ → List ActionTimer
settled_timers times kept = table (λ k. timer (kept_count kept k (slice_index times k))) 32

-- numbers where they lie, with 0 at what is gone
abbrev pub cleared : List ℕ → ℕ → List ℕ
cleared counts gone = table (λ k. cond (has gone k) 0 (slice_index counts k)) (length counts)

-- "Signals 0..31 are the cycle's inputs; signal 32+k is the activity of action k as the previous call left it"
abbrev pub signals_of : ℕ → ℕ → ℕ
signals_of inputs activity = collect (λ k. cond (nat_lt k 32) (has inputs k) (has activity (k - 32))) 64

abbrev pub as_expected : ℕ → ℕ → ℕ → Bool
as_expected signal expected signals = beq (has signals signal) (expected == 1)

abbrev pub good_at : ℕ → ℕ → ℕ → ℕ → ℕ → Bool
good_at step signal expected left signals = has left step && as_expected signal expected signals

abbrev pub bad_at : ℕ → ℕ → ℕ → ℕ → ℕ → Bool
bad_at step signal expected left signals = has left step && not (as_expected signal expected signals)

unfoldable pub marks_of : ℕ → List ℕ → List ℕ → List ℕ → ℕ → ℕ → Marks
marks_of n step signal expected left signals = record {
  good = collect (λ i. good_at (slice_index step i) (slice_index signal i) (slice_index expected i) left signals) n;
  bad = collect (λ i. bad_at (slice_index step i) (slice_index signal i) (slice_index expected i) left signals) n;
}
