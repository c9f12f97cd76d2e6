-- The all-zero run, and the growth of a step counter and of an action timer.
use Rattle.std.specs.Prelude.{ℕ, ◌+◌, min, replicate}
use Rattle.run.specs.declared.run.StepCounter.{StepCounter}
use Rattle.run.specs.declared.run.ActionTimer.{ActionTimer}
use Rattle.run.specs.declared.run.Run.{Run}

abbrev pub counter : ℕ → StepCounter
counter n = record { 0 = n }

abbrev pub timer : ℕ → ActionTimer
timer n = record { 0 = n }

-- "stopping at 86,400,000"
abbrev pub longest : ℕ
longest = 86400000

abbrev pub longer : ℕ → ℕ → ℕ
longer elapsed n = min (n + elapsed) longest

abbrev pub longer_counter : ℕ → StepCounter → StepCounter
longer_counter elapsed c = counter (longer elapsed c.0)

abbrev pub longer_timer : ℕ → ActionTimer → ActionTimer
longer_timer elapsed t = timer (longer elapsed t.0)

abbrev pub no_run : Run
no_run = record {
  clock = 0;
  active = 0;
  activity = 0;
  stored = 0;
  latched = 0;
  counters = replicate 64 (counter 0);
  timers = replicate 32 (timer 0);
  good = 0;
  bad = 0;
  hold = 0;
}
