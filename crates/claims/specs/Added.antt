-- For Additions: the four ways in which an addition is answered, additions that agree at each step, and what a sum weighs.
use Rattle.std.specs.Prelude.{ℕ, ◌≤◌, ◌<◌, List, ◌≡◌, length}
use Rattle.chart.specs.Held.{chart_code}
use Rattle.chart.specs.declared.chart.Chart.{Chart}
use Rattle.adding.specs.Adding.{sum_at, added_as}
use Rattle.adding.specs.Answer.{Added}

-- ---- the four ways

-- the three lengths are right
abbrev pub Lengths : ℕ → ℕ → ℕ → ℕ → Type 0
Lengths n first second lent = (first ≡ n) × (second ≡ n) × (lent ≡ n)

-- each number below n fits
abbrev pub Fitting : (ℕ → ℕ) → ℕ → Type 0
Fitting s n = (j : ℕ) → j < n → s j ≤ 65535

-- the ways in which an addition into a list of this length is answered: by the chart, the lengths, the first step whose sum doesn't fit, or none of them
pub data Answered (c : Chart) (a b : List ℕ) (lent : ℕ) : Added → Type 0 where
  by-chart : (chart_code c ≡ 0 → ⊥) → Answered c a b lent (added_as (chart_code c) 0)
  by_lengths : chart_code c ≡ 0 → (Lengths c.steps (length a) (length b) lent → ⊥) → Answered c a b lent (added_as 13 0)
  by-step : chart_code c ≡ 0 → Lengths c.steps (length a) (length b) lent → (k : ℕ) → k < c.steps → Fitting (sum_at a b) k → 65535 < sum_at a b k
      → Answered c a b lent (added_as 21 k)
  by-none : chart_code c ≡ 0 → Lengths c.steps (length a) (length b) lent → Fitting (sum_at a b) c.steps → Answered c a b lent (added_as 0 0)
