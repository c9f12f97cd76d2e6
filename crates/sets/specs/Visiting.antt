-- One turn of a loop over the members of a set: the first of those left, which is left no more; none at the end.
use Rattle.std.specs.Prelude.{ℕ, ◌≡◌, Option, Some, None}
use Rattle.sets.specs.Sets.{first, remove}
use Rattle.sets.specs.declared.Unvisited.{Unvisited}

abbrev pub Visits : Unvisited → Option ℕ → Unvisited → Type 0
Visits s None t = (s.rest ≡ 0) × (t.rest ≡ 0)
Visits s (Some k) t = (s.rest ≡ 0 → ⊥) × (k ≡ first s.rest) × (t.rest ≡ remove s.rest (first s.rest))
