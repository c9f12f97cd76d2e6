-- A step where the run lies: counters and timers that are cleared are those that run on, and blocks go by them as they are.
use Prim.Native.Nat.{ℕ, ◌%◌, ◌^◌, ◌≤◌, ◌<◌}
use mathlib.Core.List.{List}
use mathlib.Core.Bool.{Bool, true, false, ◌&&◌, not, cond}
use mathlib.Core.Path.{◌≡◌, refl, sym, ap, ◌∙◌}
use native.Mathlib.Omega.{arith}
use lib.ListN.{length, get_or, replicate, get_or-replicate}
use Rattle.sets.specs.Loops.{table}
use Rattle.sets.specs.Sets.{has, minus}
use Rattle.sets.proofs.Loops.{length-table, get_or-table, is-table}
use Rattle.sets.proofs.Members.{has-zero, has-not, has-mod}
use Rattle.sets.proofs.Below.{has-minus}
use Rattle.chart.specs.declared.chart.Chart.{Chart}
use Rattle.acting.specs.Acting.{kept_count, request, request_of, asked, acted}
use Rattle.acting.specs.declared.Steps.{Steps}
use Rattle.acting.specs.declared.Asked.{Asked}
use Rattle.run.specs.Run.{counter, timer, longer_counter, longer_timer}
use Rattle.run.specs.Apart.{counts_of, times_of}
use Rattle.run.specs.Belongs.{counters_fit, timers_fit}
use Rattle.run.specs.Tables.{grown_in, cleared_in}
use Rattle.run.proofs.tables.Laws.{counts-grown, counts-cleared, times-grown, times-cleared}
use Rattle.run.specs.declared.run.StepCounter.{StepCounter}
use Rattle.run.specs.declared.run.ActionTimer.{ActionTimer}
use Rattle.passes.specs.Time.{grown_counts, grown_times}
use Rattle.passes.specs.Moving.{settled_counters, settled_timers, cleared}
use Rattle.cycle.specs.Bounds.{bounded}
use Rattle.cycle.specs.Cycling.{acted_on}
use Rattle.cycle.specs.Stepping.{all_kept}
use Rattle.passes.proofs.rests.Laws.{rest_lt}
use Rattle.cycle.proofs.bounds.Sound.{asked-same}

-- ---- what has grown and is cleared where it does not run on is what runs on

runs_on : (a b : Bool) (n : ℕ) → cond (a && not b) 0 (cond a n 0) ≡ cond b (cond a n 0) 0
runs_on true true n = refl
runs_on true false n = refl
runs_on false true n = refl
runs_on false false n = refl

-- of n numbers, at most 64, that are 0 outside a set
module _ (n set kept gone : ℕ) (f : ℕ → ℕ) (few : n ≤ 64) (same : (k : ℕ) → k < n → has gone k ≡ has (minus set kept) k) where
  abbrev grown : List ℕ
  grown = table (λ k. cond (has set k) (f k) 0) n

  pub cleared_at : (k : ℕ) → k < n → get_or (cleared grown gone) k 0 ≡ kept_count kept k (get_or grown k 0)
  cleared_at k m =
      get_or-table (λ j. cond (has gone j) 0 (get_or grown j 0)) (length grown) k 0 (rw (length-table (λ j. cond (has set j) (f j) 0) n) m)
      ∙ rw (same k m, has-minus set kept k (omega arith), get_or-table (λ j. cond (has set j) (f j) 0) n k 0 m) (runs_on (has set k) (has kept k) (f k))

-- a table of counters or of timers that is what runs on, by its numbers
pub settled-counts : (kept : ℕ) (now : List StepCounter) (l : List ℕ) → length now ≡ 64 → ((k : ℕ) → k < 64 → get_or (counts_of now) k 0 ≡ kept_count kept k (get_or l k 0)) → now ≡ settled_counters l kept
settled-counts kept now l n h =
    is-table (λ k. counter (kept_count kept k (get_or l k 0))) 64 now (counter 0) n (λ k m. ap counter (sym (get_or-table (λ j. (get_or now j (counter 0)).0) 64 k 0 m) ∙ h k m))

settled-times : (kept : ℕ) (now : List ActionTimer) (l : List ℕ) → length now ≡ 32 → ((k : ℕ) → k < 32 → get_or (times_of now) k 0 ≡ kept_count kept k (get_or l k 0)) → now ≡ settled_timers l kept
settled-times kept now l n h =
    is-table (λ k. timer (kept_count kept k (get_or l k 0))) 32 now (timer 0) n (λ k m. ap timer (sym (get_or-table (λ j. (get_or now j (timer 0)).0) 32 k 0 m) ∙ h k m))

-- the counters that a cycle has grown, and then cleared
module _ (old grown : List StepCounter) (active e : ℕ) (fit : counters_fit old active ≡ true) (p : grown ≡ grown_in (λ (c : StepCounter). c.0) counter old active e 64) where
  pub counts-were : counts_of grown ≡ grown_counts old active e
  counts-were = ap counts_of p ∙ counts-grown old active e fit

  module _ (now : List StepCounter) (kept gone : ℕ) (q : gone ≡ minus active kept) (r : now ≡ cleared_in counter grown gone 64) where
    pub counts-now : (k : ℕ) → k < 64 → get_or (counts_of now) k 0 ≡ kept_count kept k (get_or (counts_of grown) k 0)
    counts-now k m =
        rw (r, counts-cleared grown gone, counts-were, q) (cleared_at 64 active kept (minus active kept) (λ j. (longer_counter e (get_or old j (counter 0))).0) (omega arith) (λ j l. refl) k m)

    pub counters-now : now ≡ settled_counters (counts_of grown) kept
    counters-now = settled-counts kept now (counts_of grown) (ap length r ∙ length-table (λ k. cond (has gone k) (counter 0) (get_or grown k (counter 0))) 64) counts-now

-- and the timers: of a set, what is below 32
module _ (old grown : List ActionTimer) (latched e : ℕ) (fit : timers_fit old latched ≡ true) (p : grown ≡ grown_in (λ (t : ActionTimer). t.0) timer old (latched % 2 ^ 32) e 32) where
  pub times-were : times_of grown ≡ grown_times old latched e
  times-were = ap times_of p ∙ times-grown old latched e fit

  pub timers-now : (now : List ActionTimer) (kept gone : ℕ) → gone ≡ minus latched kept → now ≡ cleared_in timer grown (gone % 2 ^ 32) 32 → now ≡ settled_timers (times_of grown) kept
  timers-now now kept gone q r =
      settled-times kept now (times_of grown) (ap length r ∙ length-table (λ k. cond (has (gone % 2 ^ 32) k) (timer 0) (get_or grown k (timer 0))) 32)
      (λ k m. rw (r, times-cleared grown (gone % 2 ^ 32), times-were, q) (cleared_at 32 latched kept (minus latched kept % 2 ^ 32) (λ j. (longer_timer e (get_or old j (timer 0))).0) (omega arith) (λ j l. has-mod 32 (minus latched kept) j l) k m))

-- ---- blocks that go by counters as they are

every : (k n : ℕ) → k < 64 → n ≡ kept_count 18446744073709551615 k n
every k n m = rw (has-not 0 k (omega arith) m ∙ ap not (has-zero k))

-- the same requests, if what a step's counter comes to is the same
asked-now : (n : ℕ) (step action qualifier duration counts now times : List ℕ) (steps : Steps)
    → ((b : ℕ) → b < n → get_or step b 0 < 64)
    → ((k : ℕ) → k < 64 → get_or now k 0 ≡ kept_count steps.kept k (get_or counts k 0))
    → asked n step action qualifier duration now times (all_kept steps) ≡ asked n step action qualifier duration counts times steps
unfolding asked
asked-now n step action qualifier duration counts now times steps h g =
    asked-same (request_of step action qualifier duration now times (all_kept steps)) (request_of step action qualifier duration counts times steps) (λ b. get_or action b 0) (λ b. get_or action b 0) n
    (λ b l.
    let s = get_or step b 0 in
    ap (λ (count : ℕ). request (get_or qualifier b 0) (get_or duration b 0) (has steps.active s) (has steps.entered s) (has steps.left s) count (get_or times (get_or action b 0) 0))
    (sym (every s (get_or now s 0) (h b l)) ∙ g s (h b l)))
    (λ b l. refl)

pub acted-now : (c : Chart) (counts now times : List ℕ) (steps : Steps) (stored latched : ℕ) → ((k : ℕ) → k < 64 → get_or now k 0 ≡ kept_count steps.kept k (get_or counts k 0))
    → acted_on (bounded c) now times (all_kept steps) stored latched ≡ acted_on (bounded c) counts times steps stored latched
acted-now c counts now times steps stored latched g =
    let b = bounded c in
    ap (λ (y : Asked). acted y stored latched) (asked-now b.blocks b.blockstep b.blockaction b.qualifier b.duration counts now times steps (λ k l. rest_lt 64 c.blockstep k (omega arith)) g)

-- ---- a start: all counters and timers are 0

blank : (kept n k : ℕ) → k < n → 0 ≡ kept_count kept k (get_or (replicate n 0) k 0)
blank kept n k m = rw (get_or-replicate {A = ℕ} n k 0 0 m) (go (has kept k))
  where
    go : (b : Bool) → ◌≡◌ {A = ℕ} 0 (cond b 0 0)
    go true = refl
    go false = refl

blank-count : (k : ℕ) → k < 64 → get_or (counts_of (replicate 64 (counter 0))) k 0 ≡ 0
blank-count k m =
    get_or-table (λ j. (get_or (replicate 64 (counter 0)) j (counter 0)).0) 64 k 0 m ∙ ap (λ (c : StepCounter). c.0) (get_or-replicate 64 k (counter 0) (counter 0) m)

blank-time : (k : ℕ) → k < 32 → get_or (times_of (replicate 32 (timer 0))) k 0 ≡ 0
blank-time k m =
    get_or-table (λ j. (get_or (replicate 32 (timer 0)) j (timer 0)).0) 32 k 0 m ∙ ap (λ (t : ActionTimer). t.0) (get_or-replicate 32 k (timer 0) (timer 0) m)

pub blank-counters : replicate 64 (counter 0) ≡ settled_counters (replicate 64 0) 0
blank-counters = settled-counts 0 (replicate 64 (counter 0)) (replicate 64 0) refl (λ k m. blank-count k m ∙ blank 0 64 k m)

pub blank-timers : (latched : ℕ) → replicate 32 (timer 0) ≡ settled_timers (replicate 32 0) latched
blank-timers latched = settled-times latched (replicate 32 (timer 0)) (replicate 32 0) refl (λ k m. blank-time k m ∙ blank latched 32 k m)

blank-times : times_of (replicate 32 (timer 0)) ≡ replicate 32 0
blank-times =
    sym (is-table (λ k. (get_or (replicate 32 (timer 0)) k (timer 0)).0) 32 (replicate 32 0) 0 refl
    (λ k m. get_or-replicate 32 k 0 0 m ∙ ap (λ (t : ActionTimer). t.0) (sym (get_or-replicate 32 k (timer 0) (timer 0) m))))

pub blank-acted : (c : Chart) (steps : Steps)
    → acted_on (bounded c) (counts_of (replicate 64 (counter 0))) (times_of (replicate 32 (timer 0))) (all_kept steps) 0 0 ≡ acted_on (bounded c) (replicate 64 0) (replicate 32 0) steps 0 0
blank-acted c steps =
    acted-now c (replicate 64 0) (counts_of (replicate 64 (counter 0))) (times_of (replicate 32 (timer 0))) steps 0 0 (λ k m. blank-count k m ∙ blank steps.kept 64 k m)
    ∙ ap (λ (l : List ℕ). acted_on (bounded c) (replicate 64 0) l steps 0 0) blank-times
