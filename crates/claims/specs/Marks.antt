-- What a call does to a case's marks, and that the runs of calls from a start belong to their chart: laws for Tally.
use Rattle.std.specs.Prelude.{ℕ, false, ◌≡◌}
use Rattle.sets.specs.Sets.{has}
use Rattle.run.specs.declared.run.Run.{Run}

-- no mark of case i is set
pub record Unmarked (r : Run) (i : ℕ) : Type 0 where
  pub good : has r.good i ≡ false
  pub bad : has r.bad i ≡ false
