-- Issue 25: "the page that an assessor checks by hand: each transition with its sources and targets, what each side weighs and whether they are equal, the
-- initial total, and every pair of steps that together weigh more and so are never active together; or the refusal."
use Rattle.std.specs.Prelude.{ℕ, ◌-◌, ◌/◌, ◌%◌, Bool, ◌&&◌, ◌||◌, not, cond, List, [], ◌++◌, length, get_or, eqb, ltb, leb}
use Rattle.sets.specs.Sets.{insert}
use Rattle.lines.specs.Lines.{text, decimal, named_line, chart_line}
use Rattle.chart.specs.Initial.{initial_set}
use Rattle.chart.specs.declared.chart.Chart.{Chart}
use Rattle.tally.specs.Weighing.{weight_in, balanced, weigh_of}
use Rattle.tally.specs.Answer.{Weighed}
use Rattle.page.specs.Sides.{joined, side}
use Rattle.page.specs.Answer.{Heard}

-- ---- the lines

-- "each transition with its sources and targets, what each side weighs and whether they are equal"
unfoldable pub transition_line : ℕ → ℕ → ℕ → List ℕ → List ℕ
transition_line t sources targets weights =
    (text "transition " ++ decimal t) ++ side (text " from") sources weights ++ side (text " to") targets weights
    ++ cond (balanced weights sources targets) (text " equal\n") (text " unequal\n")

-- "the initial total", with the steps that it is of
unfoldable pub initial_line : ℕ → List ℕ → List ℕ
initial_line initial weights = side (text "initial") initial weights ++ text "\n"

-- the two steps of a pair
abbrev pub both : ℕ → ℕ → ℕ
both i j = insert (insert 0 i) j

-- "pair of steps that together weigh more": each pair once
abbrev pub is_apart : ℕ → ℕ → List ℕ → ℕ → Bool
is_apart i j weights total = ltb i j && ltb j (length weights) && ltb total (weight_in weights (both i j))

unfoldable pub pair_line : ℕ → ℕ → List ℕ → List ℕ
pair_line i j weights = side (text "never together") (both i j) weights ++ text "\n"

-- pair i * 64 + j
unfoldable pub pair_at : List ℕ → ℕ → ℕ → List ℕ
pair_at weights total pair =
    cond (is_apart (pair / 64) (pair % 64) weights total) (pair_line (pair / 64) (pair % 64) weights) []

-- below the transitions: the initial total, or 14 with the transition
unfoldable pub closing_line : ℕ → List ℕ → Weighed → List ℕ
closing_line initial weights w =
    cond (eqb w.code 0) (initial_line initial weights) (named_line (text "refused weights 14 transition ") w.transition)

-- ---- all of it

-- of weights, as many as the chart has steps, that were weighed so
abbrev pub weighed_page : Chart → List ℕ → Weighed → List ℕ
weighed_page c weights w =
    joined (λ t. transition_line t (get_or c.sources t 0) (get_or c.targets t 0) weights) c.transitions
    ++ closing_line (initial_set c.steps c.initial) weights w
    ++ cond (eqb w.code 0) (joined (pair_at weights w.total) 4096) []

-- "or the refusal": of a text too long to be read whole, of a line of it, of too few or too many weights
abbrev pub too_long : List ℕ
too_long = text "refused weights too long\n"

abbrev pub fault_line : ℕ → List ℕ
fault_line fault = named_line (text "refused weights line ") fault

abbrev pub wrong_count : List ℕ
wrong_count = text "refused weights 13\n"

abbrev pub page_for : Chart → List ℕ → List ℕ
page_for c weights = cond (eqb (weigh_of c weights).code 13) wrong_count (weighed_page c weights (weigh_of c weights))

-- ---- one line of it

abbrev pub is_refused : Heard → Bool
is_refused h = not (eqb h.code 0) || leb 65536 h.length || not (eqb h.fault 0) || eqb h.weighed.code 13

unfoldable pub refusal_line : Heard → List ℕ
refusal_line h =
    cond (eqb h.code 0) (cond (leb 65536 h.length) too_long (cond (eqb h.fault 0) wrong_count (fault_line h.fault))) (chart_line h.code)

-- line k: a transition's, the one below them, or a pair's, which has none where the two are not shown to be apart
unfoldable pub line_at : ℕ → List ℕ → List ℕ → ℕ → List ℕ → Weighed → ℕ → List ℕ
line_at n sources targets initial weights w k =
    cond (ltb k n) (transition_line k (get_or sources k 0) (get_or targets k 0) weights)
    (cond (eqb k n) (closing_line initial weights w) (cond (eqb w.code 0) (pair_at weights w.total (k - n - 1)) []))

abbrev pub page_line : Heard → ℕ → List ℕ → List ℕ → ℕ → List ℕ → ℕ → List ℕ
page_line h n sources targets initial weights k =
    cond (is_refused h) (cond (eqb k 0) (refusal_line h) []) (line_at n sources targets initial weights h.weighed k)
