-- A run taken apart: its words, and its counters and timers as plain numbers; and put together again.
use Rattle.std.specs.Prelude.{ℕ, List, get_or}
use Rattle.sets.specs.Loops.{table}
use Rattle.run.specs.Run.{counter, timer}
use Rattle.run.specs.Answer.{Words}
use Rattle.run.specs.declared.run.StepCounter.{StepCounter}
use Rattle.run.specs.declared.run.ActionTimer.{ActionTimer}
use Rattle.run.specs.declared.run.Run.{Run}

abbrev pub words_of : Run → Words
words_of r = record {
  clock = r.clock;
  active = r.active;
  activity = r.activity;
  stored = r.stored;
  latched = r.latched;
  good = r.good;
  bad = r.bad;
  hold = r.hold;
}

-- the words of a run, lent one by one
abbrev pub words_at : ℕ → ℕ → ℕ → ℕ → ℕ → ℕ → ℕ → ℕ → Words
words_at clock active activity stored latched good bad hold =
    record { clock = clock; active = active; activity = activity; stored = stored; latched = latched; good = good; bad = bad; hold = hold }

abbrev pub counts_of : List StepCounter → List ℕ
counts_of counters = table (λ k. (get_or counters k (counter 0)).0) 64

abbrev pub times_of : List ActionTimer → List ℕ
times_of timers = table (λ k. (get_or timers k (timer 0)).0) 32

abbrev pub counters_of : List ℕ → List StepCounter
counters_of counts = table (λ k. counter (get_or counts k 0)) 64

abbrev pub timers_of : List ℕ → List ActionTimer
timers_of times = table (λ k. timer (get_or times k 0)) 32

abbrev pub run_of : Words → List ℕ → List ℕ → Run
run_of w counts times = record {
  clock = w.clock;
  active = w.active;
  activity = w.activity;
  stored = w.stored;
  latched = w.latched;
  counters = counters_of counts;
  timers = timers_of times;
  good = w.good;
  bad = w.bad;
  hold = w.hold;
}

-- a run where it lies: its words one by one, its counters and its timers
abbrev pub Lies : Type 0
Lies = Words × List ℕ × List ℕ

abbrev pub lying : Run → Lies
lying r = (words_of r, counts_of r.counters, times_of r.timers)
