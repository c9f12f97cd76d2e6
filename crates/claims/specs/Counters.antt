-- A step's counter, from the printed run and its clocks: "Every step counter of an active step .. grows by [the elapsed time], stopping at 86,400,000"; "A
-- step entered or inactive has counter 0" (document 01). "In a cycle under hold .. step counters stand still" (document 02, request vii).
use Rattle.std.specs.Prelude.{ℕ, ◌+◌, Bool, ◌&&◌, ◌||◌, not, get_or, ◌<◌, min, true, false, ◌≡◌}
use mathlib.Core.List.{List, [], ◌∷◌}
use Rattle.sets.specs.Sets.{has}
use Rattle.chart.specs.declared.chart.Chart.{Chart}
use Rattle.run.specs.Run.{counter, longest}
use Rattle.run.specs.declared.run.Run.{Run}
use Rattle.passes.specs.Time.{elapsed, step_time}
use Rattle.cycle.specs.Answer.{Cycled}
use Rattle.claims.specs.Editions.{target_in}
use Rattle.claims.specs.Runs.{Call, answer, Cycle, cycle, after, begun}
use Rattle.claims.specs.Tally.{left_in, ever}
use Rattle.chart.specs.Held.{initial_at}
use Rattle.cycle.specs.Cycling.{start_of}

-- step k's counter in a run
abbrev pub counter_in : Run → ℕ → ℕ
counter_in r k = (get_or r.counters k (counter 0)).0

-- what a call that was given the run r and answered o gave to step counters: the time between the two runs' clocks, and none under hold
abbrev pub time_in : Run → Cycled → ℕ
time_in r o = step_time r.hold (elapsed r.clock o.run.clock)

-- what the calls xs gave
unfoldable pub time_over : Chart → Run → List Call → ℕ
time_over c r [] = 0
time_over c r (x ∷ xs) = time_in r (answer c r x) + time_over c (answer c r x).run xs

-- step k was left in some of them
abbrev pub left_over : Chart → ℕ → Run → List Call → Bool
left_over c k r xs = ever (λ q x. left_in c (answer c q x) k) c r xs

-- "a step counts as entered if it is a target and was inactive or left" (document 02, request viii)
abbrev pub entered_in : Chart → Run → Cycled → ℕ → Bool
entered_in c r o k = target_in c o k && (not (has r.active k) || left_in c o k)

-- a step that an accepted cycle entered, after any calls since then that did not leave it: its counter is the time that they gave
abbrev pub CounterSince : Type 0
CounterSince =
    (c : Chart) (r : Run) (x : Cycle) (xs : List Call) (k : ℕ) → k < 64
    → (answer c r (cycle x)).code ≡ 0 → entered_in c r (answer c r (cycle x)) k ≡ true → left_over c k (answer c r (cycle x)).run xs ≡ false
    → counter_in (after c r (cycle x ∷ xs)) k ≡ min (time_over c (answer c r (cycle x)).run xs) longest

-- and an initial step, after any calls from the start
abbrev pub CounterFromStart : Type 0
CounterFromStart =
    (c : Chart) (clock lent : ℕ) → (start_of c clock lent).code ≡ 0 → (xs : List Call) (k : ℕ) → k < c.steps
    → initial_at c.initial k ≡ true → left_over c k (begun c clock lent) xs ≡ false
    → counter_in (after c (begun c clock lent) xs) k ≡ min (time_over c (begun c clock lent) xs) longest
