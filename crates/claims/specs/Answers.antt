-- Nothing stops it (demand 1): "No byte string, held record, clock value or input word stops the engine .. A faulty chart is refused by
-- number; a refused cycle returns the run exactly as it was, a refused reading or start an all-zero record, and none writes an output."
-- Each entry is proved to answer, for every argument, as the functions named here say. Below: which numbers its answers have, which test
-- decides, in the order of document 01, and what a refusal returns.
use Rattle.std.specs.Prelude.{ℕ, ◌+◌, ◌≤◌, ◌<◌, Bool, true, false, ◌||◌, List, [], ◌∷◌, ◌++◌, ◌≡◌, ℤ, length, get_or, take, drop, eqb}
use Rattle.fields.specs.Fields.{kind_fits}
use Rattle.chart.specs.Chart.{no_chart}
use Rattle.chart.specs.Held.{chart_code}
use Rattle.chart.specs.declared.chart.Chart.{Chart}
use Rattle.reader.specs.Framing.{length_at, kind_at, body_length, record_number}
use Rattle.reader.specs.Reading.{read_chart}
use Rattle.reader.specs.Answer.{Reading}
use Rattle.run.specs.Run.{no_run}
use Rattle.run.specs.Belongs.{belongs}
use Rattle.run.specs.declared.run.Run.{Run}
use Rattle.passes.specs.Time.{elapsed}
use Rattle.passes.specs.Outputs.{outputs_of}
use Rattle.cycle.specs.Cycling.{start_of, cycle_of, outputs_after}
use Rattle.passes.specs.Explaining.{no_reasons}
use Rattle.cycle.specs.Answer.{Cycled}
use Rattle.key.specs.Turning.{mark_of, marked, turn_of}
use Rattle.key.specs.Answer.{Turned}
use Rattle.trace.specs.Tracing.{record_fits, trace_number}
use Rattle.tally.specs.Tallying.{tally_of}
use Rattle.tally.specs.Weighing.{balanced, weigh_of}
use Rattle.tally.specs.Answer.{Tallied, Weighed}

-- ---- the numbers

-- n is in the list
abbrev pub one_of : List ℕ → ℕ → Bool
one_of [] n = false
one_of (x ∷ xs) n = eqb n x || one_of xs n

-- "it tests 1, 2, 3 and the cut body only"
abbrev pub record_numbers : List ℕ
record_numbers = 1 ∷ 2 ∷ 3 ∷ []

-- "head (1), 2, 3, body (1), 4, 5, 6, 7. After the end record: 10, 9, 8"
abbrev pub reading_numbers : List ℕ
reading_numbers = 1 ∷ 2 ∷ 3 ∷ 4 ∷ 5 ∷ 6 ∷ 7 ∷ 10 ∷ 9 ∷ 8 ∷ []

-- "Every call tests it again: 4, then records by kind with 5, 6, 7, then 9, 8"
abbrev pub chart_numbers : List ℕ
chart_numbers = 4 ∷ 5 ∷ 6 ∷ 7 ∷ 9 ∷ 8 ∷ []

-- "Start tests 15 and then the chart"
abbrev pub start_numbers : List ℕ
start_numbers = 15 ∷ chart_numbers

-- "a cycle tests 15, chart, 12, 11"
abbrev pub cycle_numbers : List ℕ
cycle_numbers = 15 ∷ chart_numbers ++ (12 ∷ 11 ∷ [])

-- "the tally [tests] chart, 12"; document 02, request (vii): "setting and clearing test chart, then 12"
abbrev pub own_numbers : List ℕ
own_numbers = chart_numbers ++ (12 ∷ [])

-- "the weighing chart, 13, 14"
abbrev pub weighing_numbers : List ℕ
weighing_numbers = chart_numbers ++ (13 ∷ 14 ∷ [])

-- a trace record: 16
abbrev pub trace_numbers : List ℕ
trace_numbers = 16 ∷ []

-- every entry, whatever it is given, answers 0 or one of its numbers
pub record Numbered : Type 0 where
  pub record-step : (s : List ℕ) (at before : ℕ) → one_of (0 ∷ record_numbers) (record_number s at before) ≡ true
  pub reading : (s : List ℕ) → one_of (0 ∷ reading_numbers) (read_chart s).code ≡ true
  pub chart : (c : Chart) → one_of (0 ∷ chart_numbers) (chart_code c) ≡ true
  pub start : (c : Chart) (clock lent : ℕ) → one_of (0 ∷ start_numbers) (start_of c clock lent).code ≡ true
  pub cycle : (c : Chart) (r : Run) (clock inputs lent : ℕ) → one_of (0 ∷ cycle_numbers) (cycle_of c r clock inputs lent).code ≡ true
  pub key : (held : Bool) (c : Chart) (r : Run) → one_of (0 ∷ own_numbers) (turn_of held c r).code ≡ true
  pub tally : (c : Chart) (r : Run) → one_of (0 ∷ own_numbers) (tally_of c r).code ≡ true
  pub weighing : (c : Chart) (weights : List ℕ) → one_of (0 ∷ weighing_numbers) (weigh_of c weights).code ≡ true
  pub trace : (s : List ℕ) (at : ℕ) → one_of (0 ∷ trace_numbers) (trace_number s at) ≡ true

-- ---- what decides, and what a refusal returns: one record per entry, its tests in their order and then the answer. Of the tests inside a
-- chart, and of the records of a file, `held_code` of the chart's specs and `read_from` of the reader's are the order.

-- the record step at a place has the number n and the values v
pub record RecordAnswer (s : List ℕ) (at before n : ℕ) (v : List ℕ) : Type 0 where
  pub cut-head : length s < at + 4 → n ≡ 1
  pub bad_kind : at + 4 ≤ length s → kind_fits (kind_at s at) before ≡ false → n ≡ 2
  pub bad-length : at + 4 ≤ length s → kind_fits (kind_at s at) before ≡ true → (length_at s at ≡ body_length (kind_at s at) → ⊥) → n ≡ 3
  pub cut-body : at + 4 ≤ length s → kind_fits (kind_at s at) before ≡ true → length_at s at ≡ body_length (kind_at s at) → length s < at + 4 + length_at s at → n ≡ 1
  pub accepted : kind_fits (kind_at s at) before ≡ true → length_at s at ≡ body_length (kind_at s at) → at + 4 + length_at s at ≤ length s → n ≡ 0
  pub same_place : (n ≡ 0 → ⊥) → v ≡ at ∷ []

-- a reading answers o; a chart that it accepts is refused by no call that tests it again
pub record ReadingAnswer (o : Reading) : Type 0 where
  pub no-chart : (o.code ≡ 0 → ⊥) → o.chart ≡ no_chart
  pub passes : o.code ≡ 0 → chart_code o.chart ≡ 0

-- a start with the outputs `out` lent answers o
pub record StartAnswer (c : Chart) (out : List ℤ) (o : Cycled) : Type 0 where
  pub few-outputs : length out < 32 → o.code ≡ 15
  pub bad-chart : 32 ≤ length out → (chart_code c ≡ 0 → ⊥) → o.code ≡ chart_code c
  pub accepted : 32 ≤ length out → chart_code c ≡ 0 → o.code ≡ 0
  pub no-run : (o.code ≡ 0 → ⊥) → o.run ≡ no_run
  pub takes-nothing : (o.code ≡ 0 → ⊥) → o.taken ≡ 0
  pub no-reasons : o.reasons ≡ no_reasons
  pub untouched : (o.code ≡ 0 → ⊥) → outputs_after c o out ≡ out
  pub writes : o.code ≡ 0 → take 32 (outputs_after c o out) ≡ outputs_of c.actions c.output c.value o.run.activity
  pub no-others : o.code ≡ 0 → drop 32 (outputs_after c o out) ≡ drop 32 out

-- a cycle from the run r with the outputs `out` lent answers o
pub record CycleAnswer (c : Chart) (r : Run) (clock : ℕ) (out : List ℤ) (o : Cycled) : Type 0 where
  pub few-outputs : length out < 32 → o.code ≡ 15
  pub bad-chart : 32 ≤ length out → (chart_code c ≡ 0 → ⊥) → o.code ≡ chart_code c
  pub other-run : 32 ≤ length out → chart_code c ≡ 0 → belongs c r ≡ false → o.code ≡ 12
  pub too-late : 32 ≤ length out → chart_code c ≡ 0 → belongs c r ≡ true → 60000 < elapsed r.clock clock → o.code ≡ 11
  pub accepted : 32 ≤ length out → chart_code c ≡ 0 → belongs c r ≡ true → elapsed r.clock clock ≤ 60000 → o.code ≡ 0
  pub same-run : (o.code ≡ 0 → ⊥) → o.run ≡ r
  pub takes-nothing : (o.code ≡ 0 → ⊥) → o.taken ≡ 0
  pub no-reasons : (o.code ≡ 0 → ⊥) → o.reasons ≡ no_reasons
  pub untouched : (o.code ≡ 0 → ⊥) → outputs_after c o out ≡ out
  pub writes : o.code ≡ 0 → take 32 (outputs_after c o out) ≡ outputs_of c.actions c.output c.value o.run.activity
  pub no-others : o.code ≡ 0 → drop 32 (outputs_after c o out) ≡ drop 32 out

-- the key turned answers o; "refused return the run as given"
pub record KeyAnswer (held : Bool) (c : Chart) (r : Run) (o : Turned) : Type 0 where
  pub bad-chart : (chart_code c ≡ 0 → ⊥) → o.code ≡ chart_code c
  pub other-run : chart_code c ≡ 0 → belongs c r ≡ false → o.code ≡ 12
  pub accepted : chart_code c ≡ 0 → belongs c r ≡ true → o.code ≡ 0
  pub same-run : (o.code ≡ 0 → ⊥) → o.run ≡ r
  pub mark : o.code ≡ 0 → o.run ≡ marked (mark_of held) r

-- a tally of the run r answers o
pub record TallyAnswer (c : Chart) (r : Run) (o : Tallied) : Type 0 where
  pub bad-chart : (chart_code c ≡ 0 → ⊥) → o.code ≡ chart_code c
  pub other-run : chart_code c ≡ 0 → belongs c r ≡ false → o.code ≡ 12
  pub accepted : chart_code c ≡ 0 → belongs c r ≡ true → o.code ≡ 0
  pub three-zeros : (o.code ≡ 0 → ⊥) → (o.passed ≡ 0) × (o.failed ≡ 0) × (o.notrun ≡ 0)

-- transition t's sources weigh as much as its targets
abbrev pub balanced_at : Chart → List ℕ → ℕ → Bool
balanced_at c weights t = balanced weights (get_or c.sources t 0) (get_or c.targets t 0)

-- a weighing by these weights answers o; "the first such transition is named"
pub record WeighingAnswer (c : Chart) (weights : List ℕ) (o : Weighed) : Type 0 where
  pub bad-chart : (chart_code c ≡ 0 → ⊥) → o.code ≡ chart_code c
  pub wrong-weights : chart_code c ≡ 0 → (length weights ≡ c.steps → ⊥) → o.code ≡ 13
  pub unbalanced : chart_code c ≡ 0 → length weights ≡ c.steps → (t : ℕ) → t < c.transitions → ((u : ℕ) → u < t → balanced_at c weights u ≡ true) → balanced_at c weights t ≡ false
      → (o.code ≡ 14) × (o.transition ≡ t)
  pub accepted : chart_code c ≡ 0 → length weights ≡ c.steps → ((t : ℕ) → t < c.transitions → balanced_at c weights t ≡ true) → o.code ≡ 0
  pub no-total : (o.code ≡ 0 → ⊥) → o.total ≡ 0
  pub names-none : (o.code ≡ 14 → ⊥) → o.transition ≡ 0

-- a place of the trace has the number n; at its end it is over
pub record TraceAnswer (s : List ℕ) (at n : ℕ) : Type 0 where
  pub over : length s ≤ at → n ≡ 0
  pub bad-record : at < length s → record_fits s at ≡ false → n ≡ 16
  pub accepted : at < length s → record_fits s at ≡ true → n ≡ 0
