-- Issue 25: "each transition with its sources and targets, what each side weighs". Numbers are decimal, and single spaces stand between words.
use Rattle.std.specs.Prelude.{ℕ, cond, List, [], ◌++◌}
use Rattle.sets.specs.Loops.{turns}
use Rattle.sets.specs.Sets.{has}
use Rattle.lines.specs.Lines.{text, decimal}
use Rattle.tally.specs.Weighing.{weight_in}

-- f 0, f 1, .. one behind the other, n of them
abbrev pub joined : (ℕ → List ℕ) → ℕ → List ℕ
joined f n = turns (λ k s. s ++ f k) [] n

-- the steps of a set in number order, each behind a space
abbrev pub step_at : ℕ → ℕ → List ℕ
step_at set k = cond (has set k) (text " " ++ decimal k) []

unfoldable pub steps_in : ℕ → List ℕ
steps_in set = joined (step_at set) 64

-- a name, the steps of a set, and what they weigh together
unfoldable pub side : List ℕ → ℕ → List ℕ → List ℕ
side name set weights = name ++ steps_in set ++ (text " weighing " ++ decimal (weight_in weights set))
