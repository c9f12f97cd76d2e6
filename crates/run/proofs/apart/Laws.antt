-- A run taken apart and put together again is the run.
use Prim.Native.Nat.{ℕ}
use mathlib.Core.List.{List}
use mathlib.Core.Path.{◌≡◌, sym, ap}
use lib.ListN.{length, get_or}
use Rattle.sets.proofs.Loops.{get_or-table, is-table}
use Rattle.run.specs.Run.{counter, timer}
use Rattle.run.specs.Apart.{words_of, counts_of, times_of, counters_of, timers_of, run_of}
use Rattle.run.specs.Answer.{Words}
use Rattle.run.specs.declared.run.StepCounter.{StepCounter}
use Rattle.run.specs.declared.run.ActionTimer.{ActionTimer}
use Rattle.run.specs.declared.run.Run.{Run}

same-counters : (l : List StepCounter) → length l ≡ 64 → l ≡ counters_of (counts_of l)
same-counters l h = is-table _ 64 l (counter 0) h (λ k m. ap counter (sym (get_or-table (λ j. (get_or l j (counter 0)).0) 64 k 0 m)))

same-timers : (l : List ActionTimer) → length l ≡ 32 → l ≡ timers_of (times_of l)
same-timers l h = is-table _ 32 l (timer 0) h (λ k m. ap timer (sym (get_or-table (λ j. (get_or l j (timer 0)).0) 32 k 0 m)))

pub same-counts : (l : List ℕ) → length l ≡ 64 → l ≡ counts_of (counters_of l)
same-counts l h = is-table _ 64 l 0 h (λ k m. ap (λ (c : StepCounter). c.0) (sym (get_or-table (λ j. counter (get_or l j 0)) 64 k (counter 0) m)))

pub same-times : (l : List ℕ) → length l ≡ 32 → l ≡ times_of (timers_of l)
same-times l h = is-table _ 32 l 0 h (λ k m. ap (λ (t : ActionTimer). t.0) (sym (get_or-table (λ j. timer (get_or l j 0)) 32 k (timer 0) m)))

pub put-together : (r : Run) (w : Words) (counts times : List ℕ) → w ≡ words_of r → (counts ≡ counts_of r.counters) × (length r.counters ≡ 64)
    → (times ≡ times_of r.timers) × (length r.timers ≡ 32) → r ≡ run_of w counts times
put-together r w counts times e f g = rw (e, f.0, g.0, ← same-counters r.counters f.1, ← same-timers r.timers g.1)
