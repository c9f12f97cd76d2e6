-- The definitions compute: some files of document 01, read by them.
use Prim.Native.Nat.{ℕ}
use mathlib.Core.List.{List, [], ◌∷◌}
use mathlib.Core.Path.{◌≡◌, refl}
use Rattle.sets.specs.Loops.{all, some, first_code}
use Rattle.fields.specs.Fields.{transition_code}
use Rattle.chart.specs.Chart.{empty_chart, with_step, with_edition}
use Rattle.chart.specs.Held.{some_initial, timed_twice, timed_for, steps_code, actions_code, transitions_code, blocks_code, cases_code, held_code, chart_code}
use Rattle.reader.specs.Framing.{record_number}
use Rattle.reader.specs.Bodies.{body_at}
use Rattle.reader.specs.Reading.{refused, accepted, read_from, read_chart}

-- "Empty file: 1, place 0"
empty-file : read_chart [] ≡ refused 1 0
unfolding read_from record_number
empty-file = refl

-- one initial step and the end
one-step : read_chart (1 ∷ 0 ∷ 1 ∷ 0 ∷ 1 ∷ 0 ∷ 0 ∷ 0 ∷ 0 ∷ []) ≡ accepted (with_step (empty_chart 1) 1)
unfolding read_from record_number body_at some_initial timed_twice some
one-step = refl

-- the same with a byte more
surplus : read_chart (1 ∷ 0 ∷ 1 ∷ 0 ∷ 1 ∷ 0 ∷ 0 ∷ 0 ∷ 0 ∷ 0 ∷ []) ≡ refused 10 9
unfolding read_from record_number body_at
surplus = refl

-- document 02, request (viii): "one more record, kind 6, one byte with the value 2, after the cases"
second-edition : read_chart (1 ∷ 0 ∷ 1 ∷ 0 ∷ 1 ∷ 1 ∷ 0 ∷ 6 ∷ 0 ∷ 2 ∷ 0 ∷ 0 ∷ 0 ∷ 0 ∷ []) ≡ accepted (with_edition (with_step (empty_chart 1) 1) 2)
unfolding read_from record_number body_at some_initial timed_twice some
second-edition = refl

-- "limit one": the second one is refused, at its place
two-editions : read_chart (1 ∷ 0 ∷ 1 ∷ 0 ∷ 1 ∷ 1 ∷ 0 ∷ 6 ∷ 0 ∷ 2 ∷ 1 ∷ 0 ∷ 6 ∷ 0 ∷ 2 ∷ 0 ∷ 0 ∷ 0 ∷ 0 ∷ []) ≡ refused 4 10
unfolding read_from record_number body_at
two-editions = refl

-- "5 for another edition byte"
first_said : read_chart (1 ∷ 0 ∷ 1 ∷ 0 ∷ 1 ∷ 1 ∷ 0 ∷ 6 ∷ 0 ∷ 1 ∷ 0 ∷ 0 ∷ 0 ∷ 0 ∷ []) ≡ refused 5 5
unfolding read_from record_number body_at
first_said = refl

-- a case behind it
case-behind : read_chart (1 ∷ 0 ∷ 1 ∷ 0 ∷ 1 ∷ 1 ∷ 0 ∷ 6 ∷ 0 ∷ 2 ∷ 3 ∷ 0 ∷ 5 ∷ 0 ∷ 0 ∷ 0 ∷ 0 ∷ 0 ∷ 0 ∷ 0 ∷ 0 ∷ []) ≡ refused 2 10
unfolding read_from record_number body_at
case-behind = refl

-- "2 now means a kind above 6"
kind-seven : read_chart (1 ∷ 0 ∷ 7 ∷ 0 ∷ 2 ∷ 0 ∷ 0 ∷ 0 ∷ 0 ∷ []) ≡ refused 2 0
unfolding read_from record_number
kind-seven = refl

-- two bytes
longer-edition : read_chart (2 ∷ 0 ∷ 6 ∷ 0 ∷ 2 ∷ 0 ∷ 0 ∷ 0 ∷ 0 ∷ 0 ∷ []) ≡ refused 3 0
unfolding read_from record_number
longer-edition = refl

-- "Chart A (152 bytes)"
unfoldable pub chart_a : List ℕ
chart_a =
    1 ∷ 0 ∷ 1 ∷ 0 ∷ 1 ∷ 1 ∷ 0 ∷ 1 ∷ 0 ∷ 0 ∷ 5 ∷ 0 ∷ 2 ∷ 0 ∷ 0 ∷ 120 ∷ 0 ∷ 0 ∷ 0 ∷ 5 ∷ 0 ∷ 2 ∷ 0 ∷ 0 ∷ 7 ∷ 0 ∷ 0 ∷ 0 ∷
    36 ∷ 0 ∷ 3 ∷ 0 ∷ 1 ∷ 0 ∷ 0 ∷ 0 ∷ 0 ∷ 0 ∷ 0 ∷ 0 ∷ 2 ∷ 0 ∷ 0 ∷ 0 ∷ 0 ∷ 0 ∷ 0 ∷ 0 ∷ 1 ∷ 0 ∷ 0 ∷ 0 ∷ 0 ∷ 0 ∷ 0 ∷ 0 ∷
    0 ∷ 0 ∷ 0 ∷ 0 ∷ 0 ∷ 0 ∷ 0 ∷ 0 ∷ 0 ∷ 0 ∷ 0 ∷ 0 ∷ 36 ∷ 0 ∷ 3 ∷ 0 ∷ 2 ∷ 0 ∷ 0 ∷ 0 ∷ 0 ∷ 0 ∷ 0 ∷ 0 ∷ 1 ∷ 0 ∷ 0 ∷ 0 ∷
    0 ∷ 0 ∷ 0 ∷ 0 ∷ 2 ∷ 0 ∷ 0 ∷ 0 ∷ 0 ∷ 0 ∷ 0 ∷ 0 ∷ 0 ∷ 0 ∷ 0 ∷ 0 ∷ 0 ∷ 0 ∷ 0 ∷ 0 ∷ 244 ∷ 1 ∷ 0 ∷ 0 ∷ 7 ∷ 0 ∷ 4 ∷ 0 ∷
    1 ∷ 0 ∷ 0 ∷ 0 ∷ 0 ∷ 0 ∷ 0 ∷ 7 ∷ 0 ∷ 4 ∷ 0 ∷ 1 ∷ 1 ∷ 2 ∷ 0 ∷ 0 ∷ 0 ∷ 0 ∷ 7 ∷ 0 ∷ 4 ∷ 0 ∷ 0 ∷ 1 ∷ 1 ∷ 0 ∷ 0 ∷ 0 ∷
    0 ∷ 3 ∷ 0 ∷ 5 ∷ 0 ∷ 1 ∷ 1 ∷ 1 ∷ 0 ∷ 0 ∷ 0 ∷ 0 ∷ []

chart-a : (read_chart chart_a).code ≡ 0
unfolding chart_a read_from record_number body_at transition_code some_initial timed_twice timed_for all some
chart-a = refl

chart-a-held : chart_code (read_chart chart_a).chart ≡ 0
unfolding chart_a read_from record_number body_at transition_code some_initial timed_twice timed_for all some first_code steps_code actions_code transitions_code blocks_code cases_code held_code
chart-a-held = refl
