-- The definitions compute on examples: the lines of pressurising and venting, which docs/ASSESSOR.md weighs by hand.
use Prim.Native.Nat.{ℕ}
use mathlib.Core.List.{List, [], ◌∷◌, ◌++◌}
use mathlib.Core.Path.{◌≡◌, refl}
use lib.ListN.{replicate}
use Rattle.sets.specs.Loops.{all, some, first_code, summed, turns}
use Rattle.sets.specs.Sets.{collect}
use Rattle.lines.specs.Lines.{text, decimal_from, chart_line}
use Rattle.fields.specs.Fields.{transition_code}
use Rattle.chart.specs.Held.{some_initial, timed_twice, timed_for, steps_code, actions_code, transitions_code, blocks_code, cases_code, held_code}
use Rattle.chart.specs.Initial.{initial_set}
use Rattle.reader.specs.Framing.{record_number}
use Rattle.reader.specs.Bodies.{body_at}
use Rattle.reader.specs.Reading.{read_from}
use Rattle.weights.specs.Words.{leading, value, word_says, says_of}
use Rattle.weights.specs.Listing.{fault_in, weights_in}
use Rattle.tally.specs.Weighing.{weight_in, unbalanced, refused}
use Rattle.page.specs.Sides.{steps_in, side}
use Rattle.page.specs.Page.{transition_line, initial_line, pair_at, pair_line, closing_line, refusal_line}
use Rattle.page.specs.Whole.{page_of}
use Rattle.page.specs.Answer.{Heard}

-- idle, pressurising, venting, recording, recorded
abbrev brake : List ℕ
brake = 3 ∷ 2 ∷ 2 ∷ 1 ∷ 1 ∷ []

-- idle to pressurising and recording; the same with recording too heavy
transition : transition_line 0 1 10 brake ≡ text "transition 0 from 0 weighing 3 to 1 3 weighing 3 equal\n"
unfolding transition_line side steps_in turns decimal_from weight_in summed
transition = refl

unequal : transition_line 63 1 10 (3 ∷ 2 ∷ 2 ∷ 2 ∷ 1 ∷ []) ≡ text "transition 63 from 0 weighing 3 to 1 3 weighing 4 unequal\n"
unfolding transition_line side steps_in turns decimal_from weight_in summed
unequal = refl

-- idle is initial
initial : closing_line 1 brake (record { code = 0; transition = 0; total = 3 }) ≡ text "initial 0 weighing 3\n"
unfolding closing_line initial_line side steps_in turns decimal_from weight_in summed
initial = refl

not-balanced : closing_line 1 brake (refused 14 12) ≡ text "refused weights 14 transition 12\n"
unfolding closing_line decimal_from
not-balanced = refl

-- pressurising and venting, which is shown once; pressurising and recording weigh no more than the total
apart : pair_at brake 3 66 ≡ text "never together 1 2 weighing 4\n"
unfolding pair_at pair_line side steps_in turns decimal_from weight_in summed collect
apart = refl

shown-once : pair_at brake 3 129 ≡ []
unfolding pair_at
shown-once = refl

light : pair_at brake 3 67 ≡ []
unfolding pair_at weight_in summed collect
light = refl

-- the refusals in their order
abbrev heard : ℕ → ℕ → ℕ → Heard
heard code length fault = record { code = code; length = length; fault = fault; weighed = refused 13 0 }

record Refused : Type 0 where
  chart : refusal_line (heard 10 65536 1) ≡ text "refused chart 10\n"
  long : refusal_line (heard 0 65536 1) ≡ text "refused weights too long\n"
  fault : refusal_line (heard 0 65535 207) ≡ text "refused weights line 207\n"
  count : refusal_line (heard 0 65535 0) ≡ text "refused weights 13\n"

refusals : Refused
unfolding refusal_line chart_line decimal_from
refusals = record { chart = refl; long = refl; fault = refl; count = refl }

-- ---- the whole page, from the bytes

-- the records of a step, and of a transition with no signal and no wait
abbrev step_record : ℕ → List ℕ
step_record initial = 1 ∷ 0 ∷ 1 ∷ 0 ∷ initial ∷ []

abbrev transition_record : ℕ → ℕ → List ℕ
transition_record sources targets = (36 ∷ 0 ∷ 3 ∷ 0 ∷ sources ∷ replicate 7 0) ++ (targets ∷ replicate 27 0)

unfoldable file : List ℕ
file =
    step_record 1 ++ step_record 0 ++ step_record 0 ++ step_record 0 ++ step_record 0
    ++ transition_record 1 10 ++ transition_record 2 4 ++ transition_record 8 16 ++ transition_record 20 1 ++ replicate 4 0

whole-page : page_of file (text "3 # idle\n2\n2\n1\n1\n")
    ≡ text "transition 0 from 0 weighing 3 to 1 3 weighing 3 equal\n"
    ++ text "transition 1 from 1 weighing 2 to 2 weighing 2 equal\n"
    ++ text "transition 2 from 3 weighing 1 to 4 weighing 1 equal\n"
    ++ text "transition 3 from 2 4 weighing 3 to 0 weighing 3 equal\n"
    ++ text "initial 0 weighing 3\n"
    ++ text "never together 0 1 weighing 5\n"
    ++ text "never together 0 2 weighing 5\n"
    ++ text "never together 0 3 weighing 4\n"
    ++ text "never together 0 4 weighing 4\n"
    ++ text "never together 1 2 weighing 4\n"
unfolding file read_from record_number body_at transition_code some_initial timed_twice timed_for all some first_code steps_code actions_code transitions_code blocks_code cases_code held_code initial_set weights_in fault_in turns leading value word_says says_of transition_line initial_line pair_at pair_line closing_line side steps_in decimal_from weight_in unbalanced summed collect
whole-page = refl
