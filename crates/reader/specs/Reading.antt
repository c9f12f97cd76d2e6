-- "Reading takes records in order and tests each: head (1), 2, 3, body (1), 4, 5, 6, 7. After the end record: 10, 9, 8."
use Rattle.std.specs.Prelude.{ℕ, zero, suc, ◌+◌, List, ◌≡◌, Result, cond, length, ltb, eqb}
use Rattle.refusals.specs.declared.Refusal.{Refusal}
use Rattle.refusals.specs.Refusals.{code_of}
use Rattle.chart.specs.Chart.{empty_chart, no_chart, with_step, with_action, with_transition, with_block, with_case, with_edition}
use Rattle.chart.specs.Held.{closing_code}
use Rattle.chart.specs.declared.chart.Chart.{Chart}
use Rattle.reader.specs.Framing.{length_at, kind_at, record_number}
use Rattle.judging.specs.Judging.{body_code}
use Rattle.reader.specs.Bodies.{body_at}
use Rattle.judging.specs.declared.Body.{Body}
use Rattle.judging.specs.declared.Body.TheVariants.{Step, Action, Transition, Block, Case, Edition}
use Rattle.reader.specs.Answer.{Reading}

-- "A refused reading returns an all-zero chart and a place"
abbrev pub refused : ℕ → ℕ → Reading
refused n p = record { code = n; place = p; chart = no_chart }

-- "Every accepted call answers 0 for the number; an accepted chart has place 0"
abbrev pub accepted : Chart → Reading
accepted c = record { code = 0; place = 0; chart = c }

-- the end record ends at `next`: "the first surplus byte for 10, and 0 for 8 and 9"
abbrev pub closed : ℕ → Chart → Reading
closed n c = cond (eqb n 0) (accepted c) (refused n 0)

abbrev pub ended : ℕ → ℕ → Chart → Reading
ended size next c =
    cond (ltb next size) (refused 10 next) (closed (closing_code c.steps c.blocks c.initial c.blockaction c.qualifier) c)

-- "each numbered from 0 in file order"
abbrev pub with_body : Chart → Body → Chart
with_body c (Step i) = with_step c i
with_body c (Action o v) = with_action c o v
with_body c (Transition s t on off w) = with_transition c s t on off w
with_body c (Block s a q d) = with_block c s a q d
with_body c (Case s n e) = with_case c s n e
with_body c (Edition x) = with_edition c x

-- the number of a body read into the chart: 4, 5, 6, 7
abbrev pub number_in : Chart → Body → ℕ
number_in c body = body_code c.steps c.actions c.transitions c.blocks c.cases c.edition body

-- a body b judged and put into the chart c: the answer, and the chart d then
pub record Takes (r : Result (Unit {0}) Refusal) (c d : Chart) (b : Body) : Type 0 where
  pub number : code_of r ≡ number_in c b
  pub chart : code_of r ≡ 0 → d ≡ with_body c b

-- a record with a whole head and body: `onward` reads on with it put in; "the record's first byte for 1 to 7"
abbrev pub taken : ℕ → Chart → Body → (Chart → Reading) → Reading
taken at c body onward = cond (eqb (number_in c body) 0) (onward (with_body c body)) (refused (number_in c body) at)

-- reading on from a place, after a kind, with the chart so far; at most so many records more
unfoldable pub read_from : ℕ → List ℕ → ℕ → ℕ → Chart → Reading
read_from zero s at before c = refused 1 at
read_from (suc more) s at before c =
    cond (eqb (record_number s at before) 0)
    (cond (eqb (kind_at s at) 0) (ended (length s) (at + 4) c)
    (taken at c (body_at s (kind_at s at) (at + 4)) (read_from more s (at + 4 + length_at s at) (kind_at s at))))
    (refused (record_number s at before) at)

-- a record takes four bytes or more, so there are no more records than bytes; document 02, request (viii): "absent means edition 1"
abbrev pub read_chart : List ℕ → Reading
read_chart s = read_from (length s + 1) s 0 0 (empty_chart 1)
