-- What holds of each number that the tests of a held chart can give holds of the chart's number.
use Prim.Native.Nat.{ℕ, zero, suc, ◌≤◌}
use mathlib.Core.Bool.{Bool, true, false, not, cond}
use native.Mathlib.Omega.{arith}
use lib.Dec.{eqb}
use Rattle.sets.specs.Loops.{or_else, first_code}
use Rattle.sets.specs.Sets.{Apart}
use Rattle.fields.specs.Fields.{unless, transition_fits, steps_differ, transition_code, edition_fits}
use Rattle.chart.specs.Held.{limits_fit, step_fits_at, steps_code, action_fits_at, actions_code, transition_code_at, transitions_code, block_fits_at, blocks_code, case_fits_at, cases_code, some_initial, timed_twice, closing_code, held_code, chart_code}
use Rattle.chart.specs.declared.chart.Chart.{Chart}

-- `P` holds of a number that a test or the first of several tests gives, if it holds of each
module _ (P : ℕ → Type 0) where
  pub either : (t : Bool) (a b : ℕ) → P a → P b → P (cond t a b)
  either true a b x y = x
  either false a b x y = y

  pub else-each : (a b : ℕ) → P a → P b → P (or_else a b)
  else-each a b x y = either (eqb a 0) b a y x

  first-each : (f : ℕ → ℕ) (n : ℕ) → P 0 → ((i : ℕ) → P (f i)) → P (first_code f n)
  unfolding first_code
  first-each f zero z h = z
  first-each f (suc n) z h = else-each (first_code f n) (f n) (first-each f n z h) (h n)

  -- a held transition: 5, 6, 7
  module _ (p0 : P 0) (p5 : P 5) (p6 : P 6) (p7 : P 7) where
    pub transition-each : (steps actions sources targets on off wait : ℕ) → P (transition_code steps actions sources targets on off wait)
    unfolding transition_code
    transition-each steps actions sources targets on off wait =
        else-each _ _ (either (transition_fits steps actions sources targets on off wait) 0 5 p0 p5)
        (else-each _ _ (either (steps_differ sources targets) 0 6 p0 p6) (either (Apart on off) 0 7 p0 p7))

  -- a held table of another kind: 5
  column-each : P 0 → P 5 → (p : ℕ → Bool) (n : ℕ) → P (first_code (λ i. unless (p i) 5) n)
  column-each p0 p5 p n = first-each (λ i. unless (p i) 5) n p0 (λ i. either (p i) 0 5 p0 p5)

  -- after the records: 9, 8
  pub closing-each : P 0 → P 9 → P 8 → (c : Chart) → P (closing_code c.steps c.blocks c.initial c.blockaction c.qualifier)
  closing-each p0 p9 p8 c =
      else-each _ _ (either (some_initial c.steps c.initial) 0 9 p0 p9) (either (not (timed_twice c.blocks c.blockaction c.qualifier)) 0 8 p0 p8)

  -- a held chart: 4, 5, 6, 7, 9, 8
  module _ (p0 : P 0) (p4 : P 4) (p5 : P 5) (p6 : P 6) (p7 : P 7) (p9 : P 9) (p8 : P 8) where
    pub chart-each : (c : Chart) → P (chart_code c)
    unfolding held_code steps_code actions_code transitions_code blocks_code cases_code
    chart-each c =
        else-each _ _ (either (limits_fit c.steps c.actions c.transitions c.blocks c.cases) 0 4 p0 p4)
        (else-each _ _ (column-each p0 p5 (step_fits_at c.initial) c.steps)
        (else-each _ _ (column-each p0 p5 (action_fits_at c.output) c.actions)
        (else-each _ _ (first-each (transition_code_at c.steps c.actions c.sources c.targets c.on c.off c.wait) c.transitions p0 (λ i. transition-each p0 p5 p6 p7 _ _ _ _ _ _ _))
        (else-each _ _ (column-each p0 p5 (block_fits_at c.steps c.actions c.blockstep c.blockaction c.qualifier c.duration) c.blocks)
        (else-each _ _ (column-each p0 p5 (case_fits_at c.steps c.actions c.casestep c.signal c.expected) c.cases)
        (else-each _ _ (either (edition_fits c.edition) 0 5 p0 p5)
        (closing-each p0 p9 p8 c)))))))

-- so it is 9 at most
pub chart-most : (c : Chart) → chart_code c ≤ 9
chart-most = chart-each (λ n. n ≤ 9) (omega arith) (omega arith) (omega arith) (omega arith) (omega arith) (omega arith) (omega arith)
