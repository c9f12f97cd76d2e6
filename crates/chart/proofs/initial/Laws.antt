-- A count beyond the table: what it has no entry for is 0, no initial step.
use Prim.Native.Nat.{ℕ, min}
use mathlib.Core.List.{List}
use mathlib.Core.Path.{◌≡◌}
use lib.ListN.{length, get_or-eq_default}
use Rattle.sets.proofs.Members.{collect-capped}
use Rattle.chart.specs.Held.{initial_at}
use Rattle.chart.specs.Initial.{initial_set}

pub set-within : (n : ℕ) (initial : List ℕ) → initial_set (min n (length initial)) initial ≡ initial_set n initial
unfolding initial_set
set-within n initial = collect-capped (initial_at initial) (length initial) n (λ k l. rw (get_or-eq_default initial 0 l))
