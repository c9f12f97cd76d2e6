-- "The weighing adds unsigned 16-bit weights over sources, targets and initial steps and returns the initial total."
use Rattle.std.specs.Prelude.{ℕ, ◌+◌, ◌-◌, Bool, cond, List, length, get_or, eqb}
use Rattle.sets.specs.Loops.{or_else, first_code, summed}
use Rattle.sets.specs.Sets.{has}
use Rattle.fields.specs.Fields.{unless}
use Rattle.chart.specs.Held.{chart_code}
use Rattle.chart.specs.Initial.{initial_set}
use Rattle.chart.specs.declared.chart.Chart.{Chart}
use Rattle.tally.specs.Answer.{Weighed}

-- what the steps of a set weigh together, step k weighing w k
abbrev pub weight : (ℕ → ℕ) → ℕ → ℕ
weight w s = summed (λ k. cond (has s k) (w k) 0) 64

-- the same with weights in a list, a step beyond it weighing nothing
unfoldable pub weight_in : List ℕ → ℕ → ℕ
weight_in weights s = weight (λ k. get_or weights k 0) s

-- a transition is balanced if its sources weigh as much as its targets
abbrev pub balanced : List ℕ → ℕ → ℕ → Bool
balanced weights sources targets = eqb (weight_in weights sources) (weight_in weights targets)

-- one more than the number of the first unbalanced transition, 0 if there is none
unfoldable pub unbalanced : ℕ → List ℕ → List ℕ → List ℕ → ℕ
unbalanced n sources targets weights =
    first_code (λ t. unless (balanced weights (get_or sources t 0) (get_or targets t 0)) (t + 1)) n

abbrev pub unbalanced_in : Chart → List ℕ → ℕ
unbalanced_in c weights = unbalanced c.transitions c.sources c.targets weights

-- "the weighing chart, 13, 14"
abbrev pub weigh_code : Chart → List ℕ → ℕ
weigh_code c weights =
    or_else (chart_code c)
    (or_else (unless (eqb (length weights) c.steps) 13) (unless (eqb (unbalanced_in c weights) 0) 14))

-- "a refused weighing total 0"
abbrev pub refused : ℕ → ℕ → Weighed
refused code transition = record { code = code; transition = transition; total = 0 }

abbrev pub weighed : Chart → List ℕ → Weighed
weighed c weights = record { code = 0; transition = 0; total = weight_in weights (initial_set c.steps c.initial) }

-- "The transition it names is 0 unless the answer is 14."
abbrev pub weigh_of : Chart → List ℕ → Weighed
weigh_of c weights =
    cond (eqb (weigh_code c weights) 0) (weighed c weights)
    (refused (weigh_code c weights) (cond (eqb (weigh_code c weights) 14) (unbalanced_in c weights - 1) 0))
