-- "Tally: failed if the bad mark is set; passed if only the good mark is; otherwise not run. The three counts are read from the marks."
use Rattle.std.specs.Prelude.{ℕ, Bool, ◌&&◌, ◌||◌, not, cond, eqb}
use Rattle.sets.specs.Loops.{counted}
use Rattle.sets.specs.Sets.{has}
use Rattle.chart.specs.declared.chart.Chart.{Chart}
use Rattle.run.specs.Belongs.{own_code}
use Rattle.run.specs.declared.run.Run.{Run}
use Rattle.tally.specs.Answer.{Tallied}

-- case k of a run with these marks
abbrev pub is_failed : ℕ → ℕ → ℕ → Bool
is_failed good bad k = has bad k

abbrev pub is_passed : ℕ → ℕ → ℕ → Bool
is_passed good bad k = has good k && not (has bad k)

abbrev pub is_not_run : ℕ → ℕ → ℕ → Bool
is_not_run good bad k = not (is_failed good bad k || is_passed good bad k)

abbrev pub counts_of : ℕ → ℕ → ℕ → Tallied
counts_of cases good bad = record {
  code = 0;
  passed = counted (is_passed good bad) cases;
  failed = counted (is_failed good bad) cases;
  notrun = counted (is_not_run good bad) cases;
}

-- "a refused tally three zeros"
abbrev pub refused : ℕ → Tallied
refused code = record { code = code; passed = 0; failed = 0; notrun = 0 }

-- "the tally [tests] chart, 12"
abbrev pub tally_of : Chart → Run → Tallied
tally_of c r = cond (eqb (own_code c r) 0) (counts_of c.cases r.good r.bad) (refused (own_code c r))
