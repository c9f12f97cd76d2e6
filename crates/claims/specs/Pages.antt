-- Issue 25: "every pair of steps that together weigh more and so are never active together": what the page of a weighing (page/specs/Page.antt) shows of two
-- steps, and that it is so.
use Rattle.std.specs.Prelude.{ℕ, ◌+◌, ◌*◌, ◌<◌, true, List, [], ◌≡◌, get_or}
use Rattle.sets.specs.Sets.{has}
use Rattle.chart.specs.declared.chart.Chart.{Chart}
use Rattle.cycle.specs.Cycling.{start_of}
use Rattle.tally.specs.Weighing.{weigh_of}
use Rattle.page.specs.Page.{pair_line, pair_at}
use Rattle.claims.specs.Runs.{Call, after, begun}

-- "pair of steps that together weigh more": two of the chart's steps, the lower one first
abbrev pub Heavier : Chart → List ℕ → ℕ → ℕ → Type 0
Heavier c weights i j = (i < j) × (j < c.steps) × ((weigh_of c weights).total < get_or weights i 0 + get_or weights j 0)

-- what the page has for the pair i, j, whose number there is i * 64 + j
abbrev pub line_for : Chart → List ℕ → ℕ → ℕ → List ℕ
line_for c weights i j = pair_at weights (weigh_of c weights).total (i * 64 + j)

-- of weights that the weighing accepts
pub record Shown (c : Chart) (weights : List ℕ) (i j : ℕ) : Type 0 where
  -- "every pair .. that together weigh more" has its line, and no other pair has one
  pub line : Heavier c weights i j → line_for c weights i j ≡ pair_line i j weights
  pub none : j < 64 → (Heavier c weights i j → ⊥) → line_for c weights i j ≡ []
  -- "and so are never active together", from an accepted start over any calls
  pub apart : Heavier c weights i j → (clock lent : ℕ) → (start_of c clock lent).code ≡ 0 → (xs : List Call)
      → has (after c (begun c clock lent) xs).active i ≡ true → has (after c (begun c clock lent) xs).active j ≡ true → ⊥
