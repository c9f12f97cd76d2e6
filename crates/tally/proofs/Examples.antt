-- The definitions compute on examples.
use mathlib.Core.List.{[], ◌∷◌}
use mathlib.Core.Path.{◌≡◌, refl}
use Rattle.sets.specs.Loops.{summed, first_code}
use Rattle.tally.specs.Tallying.{counts_of}
use Rattle.tally.specs.Weighing.{weight_in, unbalanced}

-- Chart A after its trace: the one case is good.
chart-a : counts_of 1 1 0 ≡ record { code = 0; passed = 1; failed = 0; notrun = 0 }
unfolding summed
chart-a = refl

-- Chart A with last clock 1509: the case has no mark.
never-ran : counts_of 1 0 0 ≡ record { code = 0; passed = 0; failed = 0; notrun = 1 }
unfolding summed
never-ran = refl

-- Case 0 was once good and once bad, case 1 good, case 2 bad, cases 3 and 4 did not run.
three_ways : counts_of 5 3 5 ≡ record { code = 0; passed = 1; failed = 2; notrun = 2 }
unfolding summed
three_ways = refl

-- The fork from step 0 to steps 1 and 2: balanced with weights 2, 1, 1.
fork-balanced : unbalanced 1 (1 ∷ []) (6 ∷ []) (2 ∷ 1 ∷ 1 ∷ []) ≡ 0
unfolding unbalanced weight_in first_code summed
fork-balanced = refl

-- With weights 2, 1, 2 transition 0 is unbalanced.
fork-unbalanced : unbalanced 1 (1 ∷ []) (6 ∷ []) (2 ∷ 1 ∷ 2 ∷ []) ≡ 1
unfolding unbalanced weight_in first_code summed
fork-unbalanced = refl
