-- The definitions compute: chart A's 152 bytes written back, and a chart of one step into ten, nine and eight bytes.
use Prim.Native.Nat.{ℕ}
use mathlib.Core.List.{List, [], ◌∷◌}
use mathlib.Core.Path.{◌≡◌, refl}
use Rattle.sets.specs.Loops.{all, some, first_code}
use Rattle.fields.specs.Fields.{transition_code}
use Rattle.chart.specs.Chart.{empty_chart, no_chart, with_step, with_edition}
use Rattle.chart.specs.Held.{some_initial, timed_twice, timed_for, steps_code, actions_code, transitions_code, blocks_code, cases_code, held_code}
use Rattle.reader.specs.Framing.{record_number}
use Rattle.reader.specs.Bodies.{body_at}
use Rattle.reader.specs.Reading.{read_from, read_chart}
use Rattle.reader.proofs.reading.Examples.{chart_a}
use Rattle.writer.specs.Writing.{joined, file_of, refused, write_chart}
use Rattle.writer.specs.Answer.{Writing}

chart-a : file_of (read_chart chart_a).chart ≡ chart_a
unfolding chart_a read_from record_number body_at transition_code some_initial timed_twice timed_for all some joined file_of
chart-a = refl

-- bytes behind the length stay
into-ten : ◌≡◌ {A = Writing × List ℕ} (write_chart (with_step (empty_chart 1) 1) (7 ∷ 7 ∷ 7 ∷ 7 ∷ 7 ∷ 7 ∷ 7 ∷ 7 ∷ 7 ∷ 7 ∷ []))
    (record { code = 0; length = 9 }, 1 ∷ 0 ∷ 1 ∷ 0 ∷ 1 ∷ 0 ∷ 0 ∷ 0 ∷ 0 ∷ 7 ∷ [])
unfolding held_code steps_code actions_code transitions_code blocks_code cases_code some_initial timed_twice some first_code joined file_of
into-ten = refl

into-nine : (write_chart (with_step (empty_chart 1) 1) (7 ∷ 7 ∷ 7 ∷ 7 ∷ 7 ∷ 7 ∷ 7 ∷ 7 ∷ 7 ∷ [])).0 ≡ record { code = 0; length = 9 }
unfolding held_code steps_code actions_code transitions_code blocks_code cases_code some_initial timed_twice some first_code joined file_of
into-nine = refl

-- 17, nothing written
into-eight : ◌≡◌ {A = Writing × List ℕ} (write_chart (with_step (empty_chart 1) 1) (7 ∷ 7 ∷ 7 ∷ 7 ∷ 7 ∷ 7 ∷ 7 ∷ 7 ∷ [])) (refused 17, 7 ∷ 7 ∷ 7 ∷ 7 ∷ 7 ∷ 7 ∷ 7 ∷ 7 ∷ [])
unfolding held_code steps_code actions_code transitions_code blocks_code cases_code some_initial timed_twice some first_code joined file_of
into-eight = refl

-- the chart's own number first: a chart without steps, into no bytes
no_steps : ◌≡◌ {A = Writing × List ℕ} (write_chart (empty_chart 1) []) (refused 9, [])
unfolding held_code steps_code actions_code transitions_code blocks_code cases_code some_initial timed_twice some first_code joined file_of
no_steps = refl

-- the all-zero chart says no edition
no-edition : ◌≡◌ {A = Writing × List ℕ} (write_chart no_chart []) (refused 5, [])
unfolding held_code steps_code actions_code transitions_code blocks_code cases_code some_initial timed_twice some first_code joined file_of
no-edition = refl

-- document 02, request (viii): a record for the second edition, and none for the first
second-edition : file_of (with_edition (with_step (empty_chart 1) 1) 2) ≡ 1 ∷ 0 ∷ 1 ∷ 0 ∷ 1 ∷ 1 ∷ 0 ∷ 6 ∷ 0 ∷ 2 ∷ 0 ∷ 0 ∷ 0 ∷ 0 ∷ []
unfolding joined file_of
second-edition = refl

first-edition : file_of (with_step (empty_chart 1) 1) ≡ 1 ∷ 0 ∷ 1 ∷ 0 ∷ 1 ∷ 0 ∷ 0 ∷ 0 ∷ 0 ∷ []
unfolding joined file_of
first-edition = refl
