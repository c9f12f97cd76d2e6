-- "In a run from its start a case is passed only if its step was left and its signal was as expected each time." (document 01, demand 2)
use Rattle.std.specs.Prelude.{ℕ, Bool, ◌&&◌, ◌||◌, ◌≡◌, get_or}
use Rattle.std.proofs.Math.Bool.{false, true, not}
use mathlib.Core.List.{List, [], ◌∷◌}
use Rattle.sets.specs.Loops.{some, counted}
use Rattle.sets.specs.Sets.{has}
use Rattle.chart.specs.declared.chart.Chart.{Chart}
use Rattle.run.specs.declared.run.Run.{Run}
use Rattle.passes.specs.Moving.{signals_of, as_expected}
use Rattle.cycle.specs.Answer.{Cycled}
use Rattle.tally.specs.Tallying.{is_passed, is_failed, is_not_run}
use Rattle.tally.specs.Answer.{Tallied}
use Rattle.claims.specs.Runs.{Call, answer, inputs_of, after}

-- in an answer, step k was left: a transition that it carries has k as a source
abbrev pub left_in : Chart → Cycled → ℕ → Bool
left_in c o k = some (λ t. has o.taken t && has (get_or c.sources t 0) k) c.transitions

-- case i's step was left in a call x that was given the run r
abbrev pub ran_in : Chart → ℕ → Run → Call → Bool
ran_in c i r x = left_in c (answer c r x) (get_or c.casestep i 0)

-- case i's signal in that call was as expected: an input of this call, or an activity as the call before left it
abbrev pub fine_in : Chart → ℕ → Run → Call → Bool
fine_in c i r x = as_expected (get_or c.signal i 0) (get_or c.expected i 0) (signals_of (inputs_of x) r.activity)

-- p holds of some call of a run of calls, each with the run that it was given
unfoldable pub ever : (Run → Call → Bool) → Chart → Run → List Call → Bool
ever p c r [] = false
ever p c r (x ∷ xs) = p r x || ever p c (answer c r x).run xs

-- p holds of each
unfoldable pub always : (Run → Call → Bool) → Chart → Run → List Call → Bool
always p c r [] = true
always p c r (x ∷ xs) = p r x && always p c (answer c r x).run xs

-- its step was left in some call, and its signal was as expected in each call in which it was left
abbrev pub has_passed : Chart → Run → List Call → ℕ → Bool
has_passed c r xs i = ever (ran_in c i) c r xs && always (λ r x. not (ran_in c i r x) || fine_in c i r x) c r xs

-- its step was left in some call with the signal otherwise
abbrev pub has_failed : Chart → Run → List Call → ℕ → Bool
has_failed c r xs i = ever (λ r x. ran_in c i r x && not (fine_in c i r x)) c r xs

-- its step was never left
abbrev pub never_ran : Chart → Run → List Call → ℕ → Bool
never_ran c r xs i = not (ever (ran_in c i) c r xs)

abbrev pub tallied : Chart → Run → List Call → Tallied
tallied c r xs = record {
  code = 0;
  passed = counted (has_passed c r xs) c.cases;
  failed = counted (has_failed c r xs) c.cases;
  notrun = counted (never_ran c r xs) c.cases;
}

-- ---- the theorems

-- of case i after the calls xs from the run r: passed, failed and not run, as the tally reads them from the marks, are as the calls say
pub record Case (c : Chart) (r : Run) (xs : List Call) (i : ℕ) : Type 0 where
  pub passed : is_passed (after c r xs).good (after c r xs).bad i ≡ has_passed c r xs i
  pub failed : is_failed (after c r xs).good (after c r xs).bad i ≡ has_failed c r xs i
  pub notrun : is_not_run (after c r xs).good (after c r xs).bad i ≡ never_ran c r xs i
