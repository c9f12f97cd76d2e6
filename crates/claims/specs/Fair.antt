-- What one answer does to the active steps: all that the ledger and the weights rely on.
use Rattle.std.specs.Prelude.{ℕ, ◌+◌, ◌≤◌, ◌<◌, false, ◌≡◌}
use Rattle.sets.specs.Sets.{has}
use Rattle.chart.specs.Initial.{initial_set}
use Rattle.chart.specs.declared.chart.Chart.{Chart}
use Rattle.run.specs.declared.run.Run.{Run}
use Rattle.cycle.specs.Answer.{Cycled}
use Rattle.claims.specs.AtLeast.{AtLeast}
use Rattle.claims.specs.Moves.{among}
use Rattle.claims.specs.Runs.{one}

-- an answer o to a call that was given the run r: accepted, each step's arrivals plus its activity before are its departures plus its activity
-- after, by the taken transitions, and in the second edition at least that; refused, the run is the one that was given; and what is taken is a
-- transition of the chart, so that the history has it
pub record Fair (c : Chart) (r : Run) (o : Cycled) : Type 0 where
  pub accepted : o.code ≡ 0 → (k : ℕ) → k < 64
      → AtLeast c.edition (among c.targets c.transitions o.taken k + one (has r.active k)) (among c.sources c.transitions o.taken k + one (has o.run.active k))
  pub back : (o.code ≡ 0 → ⊥) → o.run ≡ r
  pub existing : (t : ℕ) → c.transitions ≤ t → has o.taken t ≡ false

-- an accepted start makes the initial steps active, of a chart of at most 64 steps
pub record Begins (c : Chart) (r : Run) : Type 0 where
  pub few : c.steps ≤ 64
  pub initial : r.active ≡ initial_set c.steps c.initial
