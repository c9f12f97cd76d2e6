-- What the first blocks ask, and what one block more makes of it.
use Prim.Native.Nat.{ℕ, suc, ◌+◌, ◌%◌, ◌<◌}
use mathlib.Core.List.{List}
use mathlib.Core.Path.{◌≡◌, ◌∙◌}
use native.Mathlib.Numerals.{add-one}
use native.Mathlib.Omega.{arith}
use lib.ListN.{get_or}
use mathlib.Core.Bool.{true, false}
use Rattle.sets.specs.Sets.{has, union, inter, minus}
use Rattle.sets.proofs.Loops.{and_no, get_or-table}
use Rattle.sets.proofs.Members.{named_start, named-turn}
use Rattle.sets.proofs.Below.{has-union, has-minus}
use Rattle.run.specs.Run.{counter, timer}
use Rattle.run.specs.Apart.{counts_of, times_of}
use Rattle.run.specs.declared.run.StepCounter.{StepCounter}
use Rattle.run.specs.declared.run.ActionTimer.{ActionTimer}
use Rattle.acting.specs.Acting.{none_asked, putting, asked, resets, sets, latches, wants, ripens, request_at, request_of, stored_after, latched_after, acted}
use Rattle.acting.specs.declared.Steps.{Steps}
use Rattle.acting.specs.declared.Request.{Request}
use Rattle.acting.specs.declared.Asked.{Asked}

module _ (step action qualifier duration counts times : List ℕ) (steps : Steps) where
  abbrev asks : ℕ → Request
  asks b = request_of step action qualifier duration counts times steps b

  abbrev of : ℕ → ℕ
  of b = get_or action b 0

  pub none-asked : none_asked ≡ asked 0 step action qualifier duration counts times steps
  unfolding asked
  none-asked =
      rw (
        ← named_start (λ b. resets (asks b)) of,
        ← named_start (λ b. sets (asks b)) of,
        ← named_start (λ b. latches (asks b)) of,
        ← named_start (λ b. wants (asks b)) of,
        ← named_start (λ b. ripens (asks b)) of,
      )

  turn : (b : ℕ) → putting (asked b step action qualifier duration counts times steps) (of b) (asks b) ≡ asked (suc b) step action qualifier duration counts times steps
  unfolding asked
  turn b =
      rw (
        named-turn (λ b. resets (asks b)) of b,
        named-turn (λ b. sets (asks b)) of b,
        named-turn (λ b. latches (asks b)) of b,
        named-turn (λ b. wants (asks b)) of b,
        named-turn (λ b. ripens (asks b)) of b,
      )

  -- one block more: its step counts by its rest by 64, its action by its rest by 32
  pub one-asked : (b : ℕ) (x y : Asked) (s a : ℕ) (r : Request)
      → x ≡ asked b step action qualifier duration counts times steps → s % 64 ≡ get_or step b 0 → a % 32 ≡ get_or action b 0
      → r ≡ request_at (s % 64) (get_or qualifier b 0) (get_or duration b 0) (get_or counts (s % 64) 0) (get_or times (a % 32) 0) steps → y ≡ putting x (a % 32 % 64) r
      → y ≡ asked (b + 1) step action qualifier duration counts times steps
  one-asked b x y s a r e p q w h =
      let low : a % 32 % 64 ≡ a % 32 = omega arith in
      h ∙ rw (low, w, e, p, q, add-one) (turn b)

-- ---- reset wins, and only a reset clears a latch

module _ (x : Asked) (stored latched a : ℕ) (l : a < 64) where
  -- "Restarting SL when its step is entered again: only a reset clears the latch."
  pub latch-stays : has latched a ≡ true → has x.reset a ≡ false → has (latched_after x latched) a ≡ true
  latch-stays h z = has-minus (union latched x.latch) x.reset a l ∙ rw (has-union latched x.latch a l, h, z)

  cleared : (s : ℕ) → has x.reset a ≡ true → has (minus s x.reset) a ≡ false
  cleared s z = has-minus s x.reset a l ∙ rw z (and_no (has s a))

  -- "Letting S win over R in one cycle": not here, nor any other qualifier
  pub reset-wins : has x.reset a ≡ true → (has (acted x stored latched).stored a ≡ false) × (has (acted x stored latched).latched a ≡ false) × (has (acted x stored latched).activity a ≡ false)
  unfolding acted
  reset-wins z = (cleared (union stored x.set) z, cleared (union latched x.latch) z, cleared (union x.want (union (stored_after x stored) (inter (latched_after x latched) x.ripe))) z)

-- ---- counters and timers as numbers

pub count-at : (counters : List StepCounter) (k : ℕ) → k < 64 → get_or (counts_of counters) k 0 ≡ (get_or counters k (counter 0)).0
count-at counters k l = get_or-table (λ j. (get_or counters j (counter 0)).0) 64 k 0 l

pub time-at : (timers : List ActionTimer) (k : ℕ) → k < 32 → get_or (times_of timers) k 0 ≡ (get_or timers k (timer 0)).0
time-at timers k l = get_or-table (λ j. (get_or timers j (timer 0)).0) 32 k 0 l
