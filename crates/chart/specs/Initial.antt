-- The initial steps of a chart: "1 initial, 0 not".
use Rattle.std.specs.Prelude.{ℕ, List}
use Rattle.sets.specs.Sets.{collect}
use Rattle.chart.specs.Held.{initial_at}

unfoldable pub initial_set : ℕ → List ℕ → ℕ
initial_set n initial = collect (initial_at initial) n
