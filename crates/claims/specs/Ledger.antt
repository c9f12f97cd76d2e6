-- "For every step, initial plus arrivals equals departures plus active, counted in the history of taken transitions"; in the second edition "at least".
use Rattle.std.specs.Prelude.{ℕ, ◌+◌, ◌≤◌, ◌<◌, List, ◌≡◌}
use Rattle.sets.specs.Sets.{has}
use Rattle.chart.specs.Held.{initial_at}
use Rattle.chart.specs.declared.chart.Chart.{Chart}
use Rattle.cycle.specs.Cycling.{start_of}
use Rattle.claims.specs.Runs.{Call, after, history, one, arrivals, departures, begun}

abbrev pub LedgerAtLeast : Type 0
LedgerAtLeast =
    (c : Chart) (clock lent : ℕ) → (start_of c clock lent).code ≡ 0 → (xs : List Call) (k : ℕ) → k < c.steps
    → departures c k (history c (begun c clock lent) xs) + one (has (after c (begun c clock lent) xs).active k)
    ≤ one (initial_at c.initial k) + arrivals c k (history c (begun c clock lent) xs)
