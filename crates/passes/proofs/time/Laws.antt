-- What elapsed time means: added to the last reading, modulo 2^32, it gives the new one, and it is less than a turn of the clock.
use Rattle.std.proofs.Common.{◌≡◌, ℕ, ◌+◌, ◌%◌, ◌^◌, ◌<◌, Bool, true, false, cond, List, get_or, refl, ◌∙◌, arith}
use Rattle.sets.specs.Sets.{has}
use Rattle.sets.specs.Loops.{table}
use Rattle.sets.proofs.Loops.{length-table, get_or-table, is-table}
use Rattle.run.specs.Run.{counter, longer_counter}
use Rattle.run.specs.Apart.{counts_of}
use Rattle.run.specs.declared.run.StepCounter.{StepCounter}
use Rattle.passes.specs.Time.{elapsed, grown_counts}

pub elapsed-meaning : (last new : ℕ) → last < 2 ^ 32 → new < 2 ^ 32 → (last + elapsed last new) % 2 ^ 32 ≡ new
elapsed-meaning last new h k = omega arith

pub elapsed-lt : (last new : ℕ) → elapsed last new < 2 ^ 32
elapsed-lt last new = omega arith

-- "Last clock 4,294,967,000, new 200: elapsed 496"
wrapped : elapsed 4294967000 200 ≡ 496
wrapped = refl

-- a member's counter grown, any other 0
abbrev pub grown_at : List StepCounter → ℕ → ℕ → ℕ → StepCounter
grown_at counters active e k = cond (has active k) (longer_counter e (get_or counters k (counter 0))) (counter 0)

pub grown-counts : (counters : List StepCounter) (active e : ℕ) (l : List StepCounter) → l ≡ table (grown_at counters active e) 64 → counts_of l ≡ grown_counts counters active e
grown-counts counters active e l h = is-table _ 64 (counts_of l) 0 (length-table _ 64) (λ k m. get_or-table (λ j. (get_or l j (counter 0)).0) 64 k 0 m ∙ rw (h, get_or-table (grown_at counters active e) 64 k (counter 0) m) (go k (has active k)))
  where
    go : (k : ℕ) (b : Bool) → (cond b (longer_counter e (get_or counters k (counter 0))) (counter 0)).0 ≡ cond b (longer_counter e (get_or counters k (counter 0))).0 0
    go k true = refl
    go k false = refl
