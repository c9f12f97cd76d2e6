-- "With balanced whole weights the active steps weigh what the initial ones did, so two steps that together weigh more are never active
-- together." Document 02, request (viii), of edition 2: "the weighed sum never rises, so the exclusion of two steps holds as before".
use Rattle.std.specs.Prelude.{ℕ, ◌<◌, ◌≡◌, get_or, ◌≤◌, ◌+◌, true}
use Rattle.chart.specs.Initial.{initial_set}
use Rattle.chart.specs.declared.chart.Chart.{Chart}
use Rattle.tally.specs.Weighing.{weight}
use mathlib.Core.List.{List}
use Rattle.cycle.specs.Cycling.{start_of}
use Rattle.claims.specs.Runs.{Call, after, begun}
use Rattle.sets.specs.Sets.{has}

-- the sources of each transition weigh as much as its targets, step k weighing w k
abbrev pub Balanced : Chart → (ℕ → ℕ) → Type 0
Balanced c w = (t : ℕ) → t < c.transitions → weight w (get_or c.sources t 0) ≡ weight w (get_or c.targets t 0)

-- what the initial steps weigh
abbrev pub initial_weight : Chart → (ℕ → ℕ) → ℕ
initial_weight c w = weight w (initial_set c.steps c.initial)

-- in either edition, no more
abbrev pub NeverRises : Type 0
NeverRises =
    (c : Chart) (clock lent : ℕ) → (start_of c clock lent).code ≡ 0 → (w : ℕ → ℕ) → Balanced c w → (xs : List Call)
    → weight w (after c (begun c clock lent) xs).active ≤ initial_weight c w

-- two different steps that together weigh more are not both active
abbrev pub NeverTogether : Type 0
NeverTogether =
    (c : Chart) (clock lent : ℕ) → (start_of c clock lent).code ≡ 0 → (w : ℕ → ℕ) → Balanced c w → (xs : List Call)
    → (i j : ℕ) → i < c.steps → j < c.steps → (i ≡ j → ⊥) → initial_weight c w < w i + w j
    → has (after c (begun c clock lent) xs).active i ≡ true → has (after c (begun c clock lent) xs).active j ≡ true → ⊥
