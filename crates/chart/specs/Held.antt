-- "A chart held by a caller may have been altered. Every call tests it again: 4, then records by kind with 5, 6, 7, then 9, 8.
-- Entries beyond a count play no part." Document 02, request (viii): "5 for another edition byte, tested in a held chart after the cases".
use Rattle.std.specs.Prelude.{ℕ, zero, suc, ◌+◌, ◌-◌, ◌<◌, max, ◌≡◌, List, Bool, false, ◌&&◌, not, length, get_or, leb, ltb, eqb}
use Rattle.sets.specs.Loops.{some, or_else, first_code}
use Rattle.sets.specs.Sets.{collect}
use Rattle.fields.specs.Fields.{timed, unless, step_fits, action_fits, transition_code, block_names, duration_fits, block_fits, case_fits, edition_fits}
use Rattle.chart.specs.declared.chart.Chart.{Chart}

-- "1 to 64 steps, 0 to 32 actions, 0 to 64 transitions, 0 to 256 blocks and 0 to 64 cases"; no step at all is refusal 9
abbrev pub limits_fit : ℕ → ℕ → ℕ → ℕ → ℕ → Bool
limits_fit steps actions transitions blocks cases =
    leb steps 64 && leb actions 32 && leb transitions 64 && leb blocks 256 && leb cases 64

-- the largest of the first n numbers of a table, 0 if there are none: what the test of the steps and of the actions goes by
unfoldable pub largest : ℕ → List ℕ → ℕ
largest zero table = 0
largest (suc n) table = max (largest n table) (get_or table n 0)

-- each record of a held table by the definition that the reader has for its kind, and the first refusal in number order
abbrev pub step_fits_at : List ℕ → ℕ → Bool
step_fits_at initial i = step_fits (get_or initial i 0)

unfoldable pub steps_code : ℕ → List ℕ → ℕ
steps_code n initial = first_code (λ i. unless (step_fits_at initial i) 5) n

abbrev pub action_fits_at : List ℕ → ℕ → Bool
action_fits_at output i = action_fits (get_or output i 0)

unfoldable pub actions_code : ℕ → List ℕ → ℕ
actions_code n output = first_code (λ i. unless (action_fits_at output i) 5) n

abbrev pub transition_code_at : ℕ → ℕ → List ℕ → List ℕ → List ℕ → List ℕ → List ℕ → ℕ → ℕ
transition_code_at steps actions sources targets on off wait i =
    transition_code steps actions (get_or sources i 0) (get_or targets i 0) (get_or on i 0) (get_or off i 0) (get_or wait i 0)

-- has none of the three numbers
abbrev pub transition_passes_at : ℕ → ℕ → List ℕ → List ℕ → List ℕ → List ℕ → List ℕ → ℕ → Bool
transition_passes_at steps actions sources targets on off wait i = eqb (transition_code_at steps actions sources targets on off wait i) 0

unfoldable pub transitions_code : ℕ → ℕ → ℕ → List ℕ → List ℕ → List ℕ → List ℕ → List ℕ → ℕ
transitions_code n steps actions sources targets on off wait =
    first_code (transition_code_at steps actions sources targets on off wait) n

abbrev pub block_fits_at : ℕ → ℕ → List ℕ → List ℕ → List ℕ → List ℕ → ℕ → Bool
block_fits_at steps actions step action qualifier duration i =
    block_fits steps actions (get_or step i 0) (get_or action i 0) (get_or qualifier i 0) (get_or duration i 0)

unfoldable pub blocks_code : ℕ → ℕ → ℕ → List ℕ → List ℕ → List ℕ → List ℕ → ℕ
blocks_code n steps actions step action qualifier duration =
    first_code (λ i. unless (block_fits_at steps actions step action qualifier duration i) 5) n

-- what the test of the blocks asks of all of them at once, column by column
abbrev pub block_names_at : ℕ → ℕ → List ℕ → List ℕ → List ℕ → ℕ → Bool
block_names_at steps actions step action qualifier i = block_names steps actions (get_or step i 0) (get_or action i 0) (get_or qualifier i 0)

abbrev pub duration_fits_at : List ℕ → List ℕ → ℕ → Bool
duration_fits_at qualifier duration i = duration_fits (get_or qualifier i 0) (get_or duration i 0)

abbrev pub case_fits_at : ℕ → ℕ → List ℕ → List ℕ → List ℕ → ℕ → Bool
case_fits_at steps actions step signal expected i = case_fits steps actions (get_or step i 0) (get_or signal i 0) (get_or expected i 0)

unfoldable pub cases_code : ℕ → ℕ → ℕ → List ℕ → List ℕ → List ℕ → ℕ
cases_code n steps actions step signal expected =
    first_code (λ i. unless (case_fits_at steps actions step signal expected i) 5) n

-- not "no initial step (a chart without steps included)"
abbrev pub initial_at : List ℕ → ℕ → Bool
initial_at initial i = eqb (get_or initial i 0) 1

unfoldable pub some_initial : ℕ → List ℕ → Bool
some_initial n initial = some (initial_at initial) n

-- one of the first n blocks is a timed one of this action
unfoldable pub timed_for : List ℕ → List ℕ → ℕ → ℕ → Bool
timed_for action qualifier a n = some (λ i. timed (get_or qualifier i 0) && eqb (get_or action i 0) a) n

-- "two timed blocks for one action": a timed block, and an earlier one of its action
abbrev pub timed_again : List ℕ → List ℕ → ℕ → Bool
timed_again action qualifier i = timed (get_or qualifier i 0) && timed_for action qualifier (get_or action i 0) i

-- which of the blocks from a place on are timed, counted from 1, as a set
abbrev pub timed_from : ℕ → List ℕ → ℕ → Bool
timed_from at qualifier k = ltb 0 k && timed (get_or qualifier (at + k - 1) 0)

unfoldable pub timed_among : ℕ → ℕ → List ℕ → ℕ
timed_among at left qualifier = collect (timed_from at qualifier) (left + 1)

-- what is known after n blocks: a flag for each action that had a timed one, and whether one had two
pub record Seen (action qualifier : List ℕ) (seen : List Bool) (twice : Bool) (n : ℕ) : Type 0 where
  pub long : length seen ≡ 256
  pub marks : (a : ℕ) → a < 256 → get_or seen a false ≡ timed_for action qualifier a n
  pub again : twice ≡ some (timed_again action qualifier) n

unfoldable pub timed_twice : ℕ → List ℕ → List ℕ → Bool
timed_twice n action qualifier = some (timed_again action qualifier) n

-- after the records: 9, 8
abbrev pub closing_code : ℕ → ℕ → List ℕ → List ℕ → List ℕ → ℕ
closing_code steps blocks initial action qualifier =
    or_else (unless (some_initial steps initial) 9) (unless (not (timed_twice blocks action qualifier)) 8)

unfoldable pub held_code : ℕ → ℕ → ℕ → ℕ → ℕ → List ℕ → List ℕ → List ℕ → List ℕ → List ℕ → List ℕ → List ℕ → List ℕ → List ℕ → List ℕ → List ℕ → List ℕ → List ℕ → List ℕ → ℕ → ℕ
held_code steps actions transitions blocks cases initial output sources targets on off wait blockstep blockaction qualifier duration casestep signal expected edition =
    or_else (unless (limits_fit steps actions transitions blocks cases) 4)
    (or_else (steps_code steps initial)
    (or_else (actions_code actions output)
    (or_else (transitions_code transitions steps actions sources targets on off wait)
    (or_else (blocks_code blocks steps actions blockstep blockaction qualifier duration)
    (or_else (cases_code cases steps actions casestep signal expected)
    (or_else (unless (edition_fits edition) 5)
    (closing_code steps blocks initial blockaction qualifier)))))))

abbrev pub chart_code : Chart → ℕ
chart_code c =
    held_code c.steps c.actions c.transitions c.blocks c.cases c.initial c.output c.sources c.targets c.on c.off c.wait c.blockstep c.blockaction c.qualifier c.duration c.casestep c.signal c.expected c.edition
