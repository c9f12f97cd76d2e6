-- Document 02, request (x): "Supply the sum, step by step, in a third lent list. If both are balanced and no step's sum exceeds 65,535, the sum is balanced
-- and its initial total is the sum of both totals; order and grouping don't matter where all the sums involved fit, and the all-zero weighing
-- changes nothing. Refusals: chart; 13 if any of the three lengths is wrong; 21 with the first step whose sum doesn't fit, nothing written."
use Rattle.std.specs.Prelude.{ℕ, ◌+◌, ◌≤◌, ◌<◌, true, List, [], ◌∷◌, ◌++◌, ◌≡◌, length, get_or, replicate, ◌⊎◌}
use Rattle.chart.specs.Held.{chart_code}
use Rattle.chart.specs.declared.chart.Chart.{Chart}
use Rattle.tally.specs.Weighing.{weigh_of}
use Rattle.adding.specs.Adding.{added_as, add_of, sum_of}
use Rattle.adding.specs.Answer.{Added}
use Rattle.claims.specs.Answers.{one_of, chart_numbers}

-- ---- the numbers, which test decides, and what is written

-- "chart; 13 ..; 21"
abbrev pub adding_numbers : List ℕ
adding_numbers = chart_numbers ++ (13 ∷ 21 ∷ [])

-- "the three lengths" are right
abbrev pub Long : Chart → List ℕ → List ℕ → List ℕ → Type 0
Long c first second sum = (length first ≡ c.steps) × (length second ≡ c.steps) × (length sum ≡ c.steps)

-- "no step's sum exceeds 65,535", of the steps below k
abbrev pub Fit : List ℕ → List ℕ → ℕ → Type 0
Fit first second k = (j : ℕ) → j < k → get_or first j 0 + get_or second j 0 ≤ 65535

-- two weighings added into a third list: the answer r, and the list then
pub record AddAnswer (c : Chart) (first second sum : List ℕ) (r : Added) (now : List ℕ) : Type 0 where
  pub numbered : one_of (0 ∷ adding_numbers) r.code ≡ true
  pub bad-chart : (chart_code c ≡ 0 → ⊥) → r ≡ added_as (chart_code c) 0
  pub wrong-weights : chart_code c ≡ 0 → (Long c first second sum → ⊥) → r ≡ added_as 13 0
  pub sum-too-large : chart_code c ≡ 0 → Long c first second sum → (k : ℕ) → k < c.steps → Fit first second k
      → 65535 < get_or first k 0 + get_or second k 0 → r ≡ added_as 21 k
  pub accepted : chart_code c ≡ 0 → Long c first second sum → Fit first second c.steps → r ≡ added_as 0 0
  pub nothing_written : (r.code ≡ 0 → ⊥) → now ≡ sum
  pub written : r.code ≡ 0 → (length now ≡ c.steps) × ((k : ℕ) → k < c.steps → get_or now k 0 ≡ get_or first k 0 + get_or second k 0)

-- a, b and d: a and b are added into p, b and d into q, and all three into sum
pub record Grouping (c : Chart) (a b d p q sum : List ℕ) : Type 0 where
  -- where both first sums fit, the answers and the lists are the same, refused or not
  pub same : (add_of c a b (length p)).code ≡ 0 → (add_of c b d (length q)).code ≡ 0
      → (add_of c (sum_of c a b p) d (length sum) ≡ add_of c a (sum_of c b d q) (length sum)) × (sum_of c (sum_of c a b p) d sum ≡ sum_of c a (sum_of c b d q) sum)
  -- where both sums of one grouping fit, so do both of the other
  pub fits : length q ≡ c.steps → (add_of c a b (length p)).code ≡ 0 → (add_of c (sum_of c a b p) d (length sum)).code ≡ 0
      → ((add_of c b d (length q)).code ≡ 0) × ((add_of c a (sum_of c b d q) (length sum)).code ≡ 0)
  pub fits-back : length p ≡ c.steps → (add_of c b d (length q)).code ≡ 0 → (add_of c a (sum_of c b d q) (length sum)).code ≡ 0
      → ((add_of c a b (length p)).code ≡ 0) × ((add_of c (sum_of c a b p) d (length sum)).code ≡ 0)
  -- where the first sum of one grouping does not fit and that of the other does, the other's second does not, at that step or at one before it
  pub refused : (k : ℕ) → add_of c a b (length p) ≡ added_as 21 k → (add_of c b d (length q)).code ≡ 0 → length sum ≡ c.steps
      → ((add_of c a (sum_of c b d q) (length sum)).code ≡ 21) × ((add_of c a (sum_of c b d q) (length sum)).step ≤ k)
  pub refused-back : (k : ℕ) → add_of c b d (length q) ≡ added_as 21 k → (add_of c a b (length p)).code ≡ 0 → length sum ≡ c.steps
      → ((add_of c (sum_of c a b p) d (length sum)).code ≡ 21) × ((add_of c (sum_of c a b p) d (length sum)).step ≤ k)

-- ---- "the all-zero weighing changes nothing"

-- of 16-bit weights, as many as there are steps; and it is balanced itself, with total 0
pub record ZeroAdded (c : Chart) (weights sum : List ℕ) : Type 0 where
  pub answer : add_of c weights (replicate c.steps 0) (length sum) ≡ added_as 0 0
  pub same : sum_of c weights (replicate c.steps 0) sum ≡ weights
  pub weighs : weigh_of c (replicate c.steps 0) ≡ record { code = 0; transition = 0; total = 0 }

-- two steps that the sum shows to be apart, one of the two weighings shows to be apart already
abbrev pub ShownByOne : Type 0
ShownByOne =
    (c : Chart) (first second sum : List ℕ) (i j : ℕ) → (weigh_of c first).code ≡ 0 → (weigh_of c second).code ≡ 0
    → (add_of c first second (length sum)).code ≡ 0 → i < c.steps → j < c.steps
    → (weigh_of c (sum_of c first second sum)).total < get_or (sum_of c first second sum) i 0 + get_or (sum_of c first second sum) j 0
    → ((weigh_of c first).total < get_or first i 0 + get_or first j 0) ⊎ ((weigh_of c second).total < get_or second i 0 + get_or second j 0)

-- "If both are balanced and no step's sum exceeds 65,535, the sum is balanced and its initial total is the sum of both totals": by the weighing's own answers
abbrev pub SumWeighs : Type 0
SumWeighs =
    (c : Chart) (first second sum : List ℕ) → (weigh_of c first).code ≡ 0 → (weigh_of c second).code ≡ 0
    → length sum ≡ c.steps → Fit first second c.steps
    → (add_of c first second (length sum) ≡ added_as 0 0)
    × (weigh_of c (sum_of c first second sum) ≡ record { code = 0; transition = 0; total = (weigh_of c first).total + (weigh_of c second).total })

-- order: in no case, refused or not
abbrev pub SameEitherWay : Type 0
SameEitherWay =
    (c : Chart) (first second sum : List ℕ)
    → (add_of c first second (length sum) ≡ add_of c second first (length sum)) × (sum_of c first second sum ≡ sum_of c second first sum)
