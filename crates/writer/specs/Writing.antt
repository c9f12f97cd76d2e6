-- "Write a held chart into lent bytes in the form of document 01": "Kinds stand in the order 1, 2, 3, 4, 5, then one end record (kind 0, no body)
-- and nothing more." Document 02, request (viii): "one more record, kind 6, one byte with the value 2, after the cases; absent means edition 1".
use Rattle.std.specs.Prelude.{ℕ, zero, suc, ◌+◌, ◌-◌, ◌*◌, List, [], ◌++◌, cond, ℤ, pos, length, get_or, leb, eqb}
use Rattle.sets.specs.Loops.{or_else}
use Rattle.sets.specs.Bytes.{over}
use Rattle.fields.specs.Fields.{unless}
use Rattle.chart.specs.Held.{chart_code}
use Rattle.chart.specs.declared.chart.Chart.{Chart}
use Rattle.reader.specs.Framing.{body_length, record_bytes}
use Rattle.reader.specs.Bodies.{record_of}
use Rattle.judging.specs.declared.Body.{Body}
use Rattle.judging.specs.declared.Body.TheVariants.{Step, Action, Transition, Block, Case, Edition}
use Rattle.writer.specs.Answer.{Writing}

-- record i of a kind, from its tables
abbrev pub step_in : List ℕ → ℕ → Body
step_in initial i = Step (get_or initial i 0)

abbrev pub action_in : List ℕ → List ℤ → ℕ → Body
action_in output value i = Action (get_or output i 0) (get_or value i (pos 0))

abbrev pub transition_in : List ℕ → List ℕ → List ℕ → List ℕ → List ℕ → ℕ → Body
transition_in sources targets on off wait i =
    Transition (get_or sources i 0) (get_or targets i 0) (get_or on i 0) (get_or off i 0) (get_or wait i 0)

abbrev pub block_in : List ℕ → List ℕ → List ℕ → List ℕ → ℕ → Body
block_in step action qualifier duration i = Block (get_or step i 0) (get_or action i 0) (get_or qualifier i 0) (get_or duration i 0)

abbrev pub case_in : List ℕ → List ℕ → List ℕ → ℕ → Body
case_in step signal expected i = Case (get_or step i 0) (get_or signal i 0) (get_or expected i 0)

abbrev pub edition_in : ℕ → Body
edition_in i = Edition 2

-- t 0, t 1, .. one behind the other, n of them
unfoldable pub joined : (ℕ → List ℕ) → ℕ → List ℕ
joined t zero = []
joined t (suc n) = joined t n ++ t n

-- the first n records of a kind: "each numbered from 0 in file order", and none beyond the count
abbrev pub records : (ℕ → Body) → ℕ → List ℕ
records body n = joined (λ i. record_of (body i)) n

abbrev pub step_records : Chart → List ℕ
step_records c = records (step_in c.initial) c.steps

abbrev pub action_records : Chart → List ℕ
action_records c = records (action_in c.output c.value) c.actions

abbrev pub transition_records : Chart → List ℕ
transition_records c = records (transition_in c.sources c.targets c.on c.off c.wait) c.transitions

abbrev pub block_records : Chart → List ℕ
block_records c = records (block_in c.blockstep c.blockaction c.qualifier c.duration) c.blocks

abbrev pub case_records : Chart → List ℕ
case_records c = records (case_in c.casestep c.signal c.expected) c.cases

-- none in the first edition, one in the second
abbrev pub edition_records : Chart → List ℕ
edition_records c = records edition_in (c.edition - 1)

-- all of a chart, and its file
abbrev pub chart_records : Chart → List ℕ
chart_records c = step_records c ++ action_records c ++ transition_records c ++ block_records c ++ case_records c ++ edition_records c

unfoldable pub file_of : Chart → List ℕ
file_of c = chart_records c ++ record_bytes 0 []

-- how long it is: each record has its head and its body
abbrev pub record_length : ℕ → ℕ
record_length k = 4 + body_length k

abbrev pub file_length : ℕ → ℕ → ℕ → ℕ → ℕ → ℕ → ℕ
file_length steps actions transitions blocks cases edition =
    record_length 1 * steps + record_length 2 * actions + record_length 3 * transitions + record_length 4 * blocks + record_length 5 * cases
    + record_length 6 * (edition - 1) + record_length 0

-- "the chart's own first, then 17 when the lent bytes are fewer than the chart's length"
abbrev pub write_code : Chart → List ℕ → ℕ
write_code c lent = or_else (chart_code c) (unless (leb (length (file_of c)) (length lent)) 17)

-- "The answer is the length written; bytes behind it stay."
abbrev pub wrote : Chart → List ℕ → Writing × List ℕ
wrote c lent = (record { code = 0; length = length (file_of c) }, over lent 0 (file_of c))

-- "nothing written"
abbrev pub refused : ℕ → Writing
refused n = record { code = n; length = 0 }

abbrev pub write_chart : Chart → List ℕ → Writing × List ℕ
write_chart c lent = cond (eqb (write_code c lent) 0) (wrote c lent) (refused (write_code c lent), lent)
