-- "Prove that two answers allowed by one statement are equal": what the public functions of the parts answer, by its definition. Those that answer with a
-- Result, an Option or a struct, or that change where it lies what they are lent, are in Results.antt by the statement in their source.
use Rattle.std.specs.Prelude.{ℕ, ◌+◌, ◌%◌, ◌^◌, ◌≤◌, ◌<◌, min, Bool, true, false, cond, List, ◌++◌, ◌≡◌, eqb, ltb, ℤ, length, get_or, take}
use Rattle.std.proofs.Common.{to_z, of_z}
use Rattle.std.specs.Int.{w32}
use Rattle.sets.specs.Sets.{has, Within, Apart, Below, union, inter, minus, insert, beyond, first, remove, size}
use Rattle.sets.specs.Bytes.{Put}
use Rattle.sets.specs.Loops.{all, or_else}
use Rattle.fields.specs.Fields.{timed, unless, kind_fits, step_fits, action_fits, transition_code, duration_fits, block_fits, case_fits, edition_fits, second}
use Rattle.chart.specs.Held.{closing_code, held_code, chart_code}
use Rattle.chart.specs.Initial.{initial_set}
use Rattle.chart.specs.declared.chart.Chart.{Chart}
use Rattle.judging.specs.Judging.{body_code}
use Rattle.judging.specs.declared.Body.TheVariants.{Step, Action, Transition, Block, Case, Edition}
use Rattle.reader.specs.Numbers.{le_from}
use Rattle.reader.specs.Framing.{Answers}
use Rattle.reader.specs.Reading.{read_chart}
use Rattle.reader.specs.Answer.{Next, Reading}
use Rattle.choice.specs.Choice.{choosing, chosen_under, chosen_from, reasons_of, held_reasons}
use Rattle.choice.specs.declared.Choice.{Choice}
use Rattle.index.specs.Building.{built_after, built_of, indexed_as}
use Rattle.index.specs.Consulting.{index_after, consulted}
use Rattle.index.specs.Answer.{Indexed}
use Rattle.acting.specs.Acting.{request_at, putting, asked, acted}
use Rattle.acting.specs.declared.Steps.{Steps}
use Rattle.acting.specs.declared.Request.{Request}
use Rattle.acting.specs.declared.Asked.{Asked}
use Rattle.acting.specs.declared.Acted.{Acted}
use Rattle.run.specs.Run.{no_run, longer_counter, longer_timer}
use Rattle.run.specs.Apart.{words_of, counters_of, counts_of, times_of, run_of}
use Rattle.run.specs.Belongs.{belongs_to, own_after}
use Rattle.run.specs.Answer.{Words}
use Rattle.run.specs.declared.run.StepCounter.{StepCounter}
use Rattle.run.specs.declared.run.ActionTimer.{ActionTimer}
use Rattle.run.specs.declared.run.Run.{Run}
use Rattle.passes.specs.Rests.{rests}
use Rattle.passes.specs.Time.{elapsed, step_time, grown_counts}
use Rattle.passes.specs.Choosing.{steps_of}
use Rattle.passes.specs.Moving.{signals_of, marks_of}
use Rattle.passes.specs.Outputs.{written}
use Rattle.passes.specs.Explaining.{kept_if}
use Rattle.passes.specs.declared.moving.Marks.{Marks}
use Rattle.cycle.specs.Cycling.{ready_after, start_of, cycle_of, cycle_by, outputs_after}
use Rattle.cycle.specs.Stepping.{all_kept}
use Rattle.calls.specs.Starting.{begun, start_on}
use Rattle.cycle.specs.Calling.{InParts, in_parts, calls_by}
use Rattle.cycle.specs.Answer.{Cycled}
use Rattle.calls.specs.Answer.{Started}
use Rattle.key.specs.Turning.{turn_of}
use Rattle.key.specs.Answer.{Turned}
use Rattle.shift.specs.Shifting.{Done, lists_code, clocks_taken, shift_of, shift_by}
use Rattle.trace.specs.Tracing.{call_at, trace_number}
use Rattle.trace.specs.Answer.{Call}
use Rattle.tally.specs.Tallying.{tally_of}
use Rattle.tally.specs.Weighing.{weight_in, weigh_of}
use Rattle.tally.specs.Answer.{Tallied, Weighed}
use Rattle.writer.specs.Writing.{write_chart}
use Rattle.writer.specs.Answer.{Writing}
use Rattle.report.specs.Printing.{opening, printed_of, line_after}
use Rattle.report.specs.declared.printing.Standing.{Standing}
use Rattle.report.specs.Answer.{Printed}
use Rattle.adding.specs.Adding.{added_as, added_after, add_of, sum_after, sum_of}
use Rattle.adding.specs.Answer.{Added}
use Rattle.lines.specs.Lines.{text, digit, hex, decimal, named_line, chart_line, Puts}
use Rattle.weights.specs.Words.{says_of}
use Rattle.weights.specs.Listing.{fault_in, weights_in}
use Rattle.weights.specs.Answer.{Said}
use Rattle.page.specs.Page.{page_line}
use Rattle.page.specs.Answer.{Heard}
use Rattle.claims.specs.Older.{Read, Tables, reading_of, number_of, Listed}

-- two answers that a statement allows are equal
abbrev pub One : {A : Type 0} → (A → Type 0) → Type 0
One {A} allowed = (r q : A) → allowed r → allowed q → r ≡ q

-- and so is what two answers leave in a lent slice, or in lent tables
abbrev pub Both : {A B : Type 0} → (A → B → Type 0) → Type 0
Both {A} {B} allowed = (r q : A) (f g : B) → allowed r f → allowed q g → (r ≡ q) × (f ≡ g)

-- sets/src/lib.rt
pub record SetsUnique : Type 0 where
  pub is-in : (s k : ℕ) → One (λ (r : Bool). r ≡ has s k)
  pub is_within : (a b : ℕ) → One (λ (r : Bool). r ≡ Within a b)
  pub is-apart : (a b : ℕ) → One (λ (r : Bool). r ≡ Apart a b)
  pub names-below : (s n : ℕ) → One (λ (r : Bool). r ≡ Below s n)
  pub joined : (a b : ℕ) → One (λ (r : ℕ). r ≡ union a b)
  pub common : (a b : ℕ) → One (λ (r : ℕ). r ≡ inter a b)
  pub without : (a b : ℕ) → One (λ (r : ℕ). r ≡ minus a b)
  pub with : (s k : ℕ) → One (λ (r : ℕ). r ≡ insert s k)
  pub with-if : (s k : ℕ) (b : Bool) → One (λ (r : ℕ). r ≡ cond b (insert s k) s)
  pub is-in-mod : (s k : ℕ) → One (λ (r : Bool). r ≡ has s (k % 64))
  pub with-if-mod : (s k : ℕ) (b : Bool) → One (λ (r : ℕ). r ≡ cond b (insert s (k % 64)) s)
  pub beyond : (n : ℕ) → One (λ (r : ℕ). r ≡ beyond n)
  pub without-first : (s : ℕ) → One (λ (r : ℕ). r ≡ remove s (first s))
  pub first : (s : ℕ) → One (λ (r : ℕ). r ≡ first s)
  pub size : (s : ℕ) → One (λ (r : ℕ). r ≡ size s)

-- fields/src/lib.rt
pub record FieldsUnique : Type 0 where
  pub is-timed : (qualifier : ℕ) → One (λ (r : Bool). r ≡ timed qualifier)
  pub or-else : (a b : ℕ) → One (λ (r : ℕ). r ≡ or_else a b)
  pub unless : (ok : Bool) (code : ℕ) → One (λ (r : ℕ). r ≡ unless ok code)
  pub kind_fits : (kind before : ℕ) → One (λ (r : Bool). r ≡ kind_fits kind before)
  pub step_fits : (initial : ℕ) → One (λ (r : Bool). r ≡ step_fits initial)
  pub action-fits : (output : ℕ) → One (λ (r : Bool). r ≡ action_fits output)
  pub transition-passes : (steps actions sources targets on off wait : ℕ) → One (λ (r : Bool). r ≡ eqb (transition_code steps actions sources targets on off wait) 0)
  pub transition-code : (steps actions sources targets on off wait : ℕ) → One (λ (r : ℕ). r ≡ transition_code steps actions sources targets on off wait)
  pub duration-fits : (qualifier duration : ℕ) → One (λ (r : Bool). r ≡ duration_fits qualifier duration)
  pub block-fits : (steps actions step action qualifier duration : ℕ) → One (λ (r : Bool). r ≡ block_fits steps actions step action qualifier duration)
  pub case-fits : (steps actions step signal expected : ℕ) → One (λ (r : Bool). r ≡ case_fits steps actions step signal expected)
  pub edition-fits : (edition : ℕ) → One (λ (r : Bool). r ≡ edition_fits edition)
  pub is-second : (edition : ℕ) → One (λ (r : Bool). r ≡ second edition)

-- chart/src: chart, held, initial
pub record ChartUnique : Type 0 where
  pub at_most : (n table : ℕ) → One (λ (r : ℕ). r ≡ min n table)
  pub index_of : (x : ℕ) → One (λ (r : ℕ). (r ≡ x) × (r < 256))
  pub closing-code : (steps blocks : ℕ) (initial blockaction qualifier : List ℕ) → One (λ (r : ℕ). r ≡ closing_code steps blocks initial blockaction qualifier)
  pub held-code : (steps actions transitions blocks cases : ℕ) (initial output sources targets on off wait blockstep blockaction qualifier duration casestep signal expected : List ℕ) (edition : ℕ)
      → One (λ (r : ℕ). r ≡ held_code steps actions transitions blocks cases initial output sources targets on off wait blockstep blockaction qualifier duration casestep signal expected edition)
  pub chart-code : (chart : Chart) → One (λ (r : ℕ). r ≡ chart_code chart)
  pub initial-of : (n : ℕ) (initial : List ℕ) → One (λ (r : ℕ). r ≡ initial_set n initial)

-- judging/src/lib.rt
pub record JudgingUnique : Type 0 where
  pub step-code : (steps initial : ℕ) → One (λ (r : ℕ). r ≡ body_code steps 0 0 0 0 0 (Step initial))
  pub action-code : (actions output : ℕ) (value : ℤ) → One (λ (r : ℕ). r ≡ body_code 0 actions 0 0 0 0 (Action output value))
  pub transition-code : (steps actions transitions sources targets on off wait : ℕ)
      → One (λ (r : ℕ). r ≡ body_code steps actions transitions 0 0 0 (Transition sources targets on off wait))
  pub block-code : (steps actions blocks step action qualifier duration : ℕ)
      → One (λ (r : ℕ). r ≡ body_code steps actions 0 blocks 0 0 (Block step action qualifier duration))
  pub case-code : (steps actions cases step signal expected : ℕ) → One (λ (r : ℕ). r ≡ body_code steps actions 0 0 cases 0 (Case step signal expected))
  pub edition-code : (edition byte : ℕ) → One (λ (r : ℕ). r ≡ body_code 0 0 0 0 0 edition (Edition byte))

-- reader/src: framing, numbers, reading
pub record ReaderUnique : Type 0 where
  pub record-at : (bytes : List ℕ) (at before : ℕ) → One (λ (r : Next). Answers r bytes at before)
  pub u16-from : (bytes : List ℕ) (at : ℕ) → One (λ (r : ℕ). r ≡ le_from 2 bytes at)
  pub u32-from : (bytes : List ℕ) (at : ℕ) → One (λ (r : ℕ). r ≡ le_from 4 bytes at)
  pub signed : (x : ℕ) → One (λ (r : ℤ). r ≡ to_z w32 x)
  pub bits_of : (v : ℤ) → One (λ (r : ℕ). r ≡ of_z w32 v)
  pub read-chart : (bytes : List ℕ) → One (λ (r : Reading). r ≡ read_chart bytes)
  pub read-into : (bytes : List ℕ) → Both (λ (r : Read) (exit : Tables). reading_of r exit ≡ read_chart bytes)

-- choice/src/lib.rt
pub record ChoiceUnique : Type 0 where
  pub choose_one : (edition : ℕ) (choice : Choice) (t sources targets on off wait : ℕ) (counts : List ℕ) (active signals : ℕ)
      → One (λ (r : Choice). r ≡ choosing edition choice t sources targets on off wait counts active signals)
  pub explain : (edition n : ℕ) (sources targets on off wait counts : List ℕ) (active signals : ℕ)
      → One (λ (exit : List ℕ). exit ≡ reasons_of 0 edition n sources targets on off wait counts active signals)
  pub hold-all : (n : ℕ) → One (λ (exit : List ℕ). exit ≡ held_reasons n)

-- index/src: building, consulting
pub record IndexUnique : Type 0 where
  pub index_of : (chart : Chart) → One (λ (r : Indexed). r ≡ built_of chart)
  pub tolwaziho-index : (held transitions : ℕ) (sources : List ℕ) → Both (λ (r : ℕ) (exit : List ℕ). indexed_as r exit ≡ built_after held transitions sources)
  pub index-after : (held n : ℕ) (sources index : List ℕ) → One (λ (r : ℕ). (r ≡ index_after held n sources index) × (r ≡ 0 → (length index ≡ 0 → ⊥) → all (λ t. ltb (get_or sources t 0) (2 ^ 64)) (min n 64) ≡ true))
  pub consulted : (n : ℕ) (index : List ℕ) (active : ℕ) → One (λ (r : ℕ). r ≡ consulted n index active)

-- acting/src/lib.rt
pub record ActingUnique : Type 0 where
  pub asks : (qualifier duration step action : ℕ) (counts times : List ℕ) (steps : Steps)
      → One (λ (r : Request). r ≡ request_at (step % 64) qualifier duration (get_or counts (step % 64) 0) (get_or times (action % 32) 0) steps)
  pub put : (asked : Asked) (action : ℕ) (r : Request) → One (λ (q : Asked). q ≡ putting asked (action % 64) r)
  pub act : (asked : Asked) (stored latched : ℕ) → One (λ (r : Acted). r ≡ acted asked stored latched)

-- run/src: apart, belongs, run
pub record RunUnique : Type 0 where
  pub StepCounter-longer : (self : StepCounter) (e : ℕ) → One (λ (r : StepCounter). r ≡ longer_counter e self)
  pub ActionTimer-longer : (self : ActionTimer) (e : ℕ) → One (λ (r : ActionTimer). r ≡ longer_timer e self)
  pub no-run : One (λ (r : Run). r ≡ no_run)
  pub parts-belong : (words : Words) (counts times : List ℕ) (steps actions cases : ℕ)
      → One (λ (r : Bool). (r ≡ belongs_to steps actions cases (run_of words counts times)) × (length counts ≡ 64) × (length times ≡ 32))
  pub own_code : (held : ℕ) (words : Words) (counts times : List ℕ) (steps actions cases : ℕ)
      → One (λ (r : ℕ). (r ≡ own_after held steps actions cases (run_of words counts times)) × (length counts ≡ 64) × (length times ≡ 32))
  pub words-of : (run : Run) → One (λ (r : Words). r ≡ words_of run)
  pub put-words : (words : Words) → One (λ (exit : Words). exit ≡ words)
  pub counts_of : (counters : List StepCounter) → One (λ (r : List ℕ). (r ≡ counts_of counters) × (length counters ≡ 64))
  pub times-of : (timers : List ActionTimer) → One (λ (r : List ℕ). (r ≡ times_of timers) × (length timers ≡ 32))
  pub run-of : (words : Words) (counts times : List ℕ) → One (λ (r : Run). r ≡ run_of words counts times)

-- passes/src: asking, choosing, explaining, moving, outputs, time
pub record PassesUnique : Type 0 where
  pub step-time : (hold e : ℕ) → One (λ (r : ℕ). r ≡ step_time hold e)
  pub choose : (hold edition n : ℕ) (sources targets on off wait counts : List ℕ) (active signals : ℕ)
      → One (λ (r : Choice). r ≡ chosen_under hold edition (min n 64) sources targets on off wait counts active signals)
  pub choose-from : (edition consulted : ℕ) (sources targets on off wait counts : List ℕ) (active signals : ℕ)
      → One (λ (r : Choice). r ≡ chosen_from edition consulted sources targets on off wait counts active signals)
  pub steps-of : (active : ℕ) (choice : Choice) → One (λ (r : Steps). r ≡ steps_of active choice)
  pub signals-of : (inputs activity : ℕ) → One (λ (r : ℕ). r ≡ signals_of inputs activity)
  pub marks-of : (n : ℕ) (step signal expected : List ℕ) (left signals : ℕ)
      → One (λ (r : Marks). r ≡ marks_of (min n 64) (rests 64 step) (rests 64 signal) expected left signals)
  pub ask-blocks : (n : ℕ) (blockstep blockaction qualifier duration counts times : List ℕ) (steps : Steps)
      → One (λ (r : Asked). r ≡ asked (min n 256) (rests 64 blockstep) (rests 32 blockaction) qualifier duration counts times steps)
  pub write-outputs : (outputs : List ℤ) (n : ℕ) (output : List ℕ) (value : List ℤ) (activity : ℕ)
      → One (λ (exit : List ℤ). exit ≡ written (min n 32) (rests 32 output) value activity outputs)
  pub explain : (edition n : ℕ) (sources targets on off wait : List ℕ) (words : Words) (counts : List ℕ) (clock inputs : ℕ)
      → One (λ (exit : List ℕ). exit ≡ reasons_of words.hold edition n sources targets on off wait (grown_counts (counters_of counts) words.active (step_time words.hold (elapsed words.clock clock))) words.active (signals_of inputs words.activity))
  pub keep-if : (code : ℕ) (reasons : List ℕ) → One (λ (exit : List ℕ). exit ≡ kept_if code reasons)
  pub elapsed : (last new : ℕ) → One (λ (r : ℕ). r ≡ elapsed last new)

-- cycle/src: cycling
pub record CycleUnique : Type 0 where
  pub ready-code : (held steps actions cases : ℕ) (words : Words) (counts times : List ℕ) (outputs : ℕ)
      → One (λ (r : ℕ). (r ≡ ready_after held steps actions cases (run_of words counts times) outputs) × (length counts ≡ 64) × (length times ≡ 32))

-- stepping/src: calling, stepping
pub record SteppingUnique : Type 0 where
  pub settle : (outputs : List ℤ) (actions : ℕ) (output : List ℕ) (value : List ℤ) (blocks : ℕ) (blockstep blockaction qualifier duration counts times : List ℕ) (steps : Steps) (stored latched : ℕ)
      → Both (λ (r : Acted) (exit : List ℤ). (r ≡ acted (asked (min blocks 256) (rests 64 blockstep) (rests 32 blockaction) qualifier duration counts times (all_kept steps)) stored latched) × (exit ≡ written (min actions 32) (rests 32 output) value r.activity outputs))
  pub cycles-on : (lent : Chart) (index : List ℕ) (words : Words) (counts times clocks inputs activities : List ℕ) (outputs : List ℤ)
      → One (λ (r : InParts). r ≡ in_parts (calls_by lent index (run_of words counts times) clocks inputs activities outputs))

-- calls/src: cycling, starting
pub record CallsUnique : Type 0 where
  pub start : (chart : Chart) (clock : ℕ) (outputs : List ℤ)
      → Both (λ (r : Cycled) (exit : List ℤ). (r ≡ start_of chart clock (length outputs)) × (exit ≡ outputs_after chart r outputs))
  pub cycle : (chart : Chart) (run : Run) (clock inputs : ℕ) (outputs : List ℤ)
      → Both (λ (r : Cycled) (exit : List ℤ). (r ≡ cycle_of chart run clock inputs (length outputs)) × (exit ≡ outputs_after chart r outputs))
  pub cycle-by : (chart : Chart) (index : List ℕ) (run : Run) (clock inputs : ℕ) (outputs : List ℤ)
      → Both (λ (r : Cycled) (exit : List ℤ). (r ≡ cycle_by chart index run clock inputs (length outputs)) × (exit ≡ outputs_after chart r outputs))
  pub start-on : (lent : Chart) (clock : ℕ) (outputs : List ℤ) → Both (λ (r : Started) (exit : List ℤ). (begun r, exit) ≡ start_on lent clock outputs)

-- key/src: turning
pub record KeyUnique : Type 0 where
  pub hold : (chart : Chart) (run : Run) → One (λ (r : Turned). r ≡ turn_of true chart run)
  pub release : (chart : Chart) (run : Run) → One (λ (r : Turned). r ≡ turn_of false chart run)
  pub turn : (held : Bool) (lent : Chart) (run : Run) → One (λ (r : Turned). r ≡ turn_of held lent run)

-- shift/src: shifting
pub record ShiftUnique : Type 0 where
  pub lists-code : (clocks inputs words : ℕ) → One (λ (r : ℕ). r ≡ lists_code clocks inputs words)
  pub clocks-taken : (code clocks : ℕ) → One (λ (r : ℕ). (r ≡ clocks_taken code clocks) × (r ≤ clocks))
  pub shift : (chart : Chart) (run : Run) (clocks inputs words : List ℕ) (outputs : List ℤ) → One (λ (r : Done). r ≡ shift_of chart run clocks inputs words outputs)
  pub shift-by : (chart : Chart) (index : List ℕ) (run : Run) (clocks inputs words : List ℕ) (outputs : List ℤ) → One (λ (r : Done). r ≡ shift_by chart index run clocks inputs words outputs)

-- trace/src: tracing
pub record TraceUnique : Type 0 where
  pub call-at : (trace : List ℕ) (at : ℕ) → One (λ (r : Call). (r ≡ call_at trace at) × (number_of r ≡ trace_number trace at))

-- tally/src: tallying, weighing
pub record TallyUnique : Type 0 where
  pub tally-on : (lent : Chart) (words : Words) (counts times : List ℕ) → One (λ (r : Tallied). r ≡ tally_of lent (run_of words counts times))
  pub tally : (chart : Chart) (run : Run) → One (λ (r : Tallied). r ≡ tally_of chart run)
  pub weigh-on : (lent : Chart) (weights : List ℕ) → One (λ (r : Weighed). r ≡ weigh_of lent weights)
  pub weigh : (chart : Chart) (weights : List ℕ) → One (λ (r : Weighed). r ≡ weigh_of chart weights)
  pub weight-in : (set : ℕ) (weights : List ℕ) → One (λ (r : ℕ). r ≡ weight_in weights set)

-- adding/src: adding
pub record AddingUnique : Type 0 where
  pub add-after : (held n : ℕ) (first second sum : List ℕ)
      → Both (λ (r : Added) (exit : List ℕ). (r ≡ added_after held n first second (length sum)) × (exit ≡ sum_after held n first second sum))
  pub add : (chart : Chart) (first second sum : List ℕ) → Both (λ (r : Added) (exit : List ℕ). (r ≡ add_of chart first second (length sum)) × (exit ≡ sum_of chart first second sum))
  pub tolwaziho-add : (held steps : ℕ) (first second sum : List ℕ)
      → Both (λ (r : ℕ × ℕ) (exit : List ℕ). (added_as r.0 r.1 ≡ added_after held steps first second (length sum)) × (exit ≡ sum_after held steps first second sum))

-- writer/src: writing
pub record WriterUnique : Type 0 where
  pub write-on : (lent : Chart) (bytes : List ℕ) → One (λ (r : Writing × List ℕ). r ≡ write_chart lent bytes)
  pub write-chart : (chart : Chart) (bytes : List ℕ) → One (λ (r : Writing × List ℕ). r ≡ write_chart chart bytes)

-- report/src: printing
pub record ReportUnique : Type 0 where
  pub opening : One (λ (r : Standing). r ≡ opening)
  pub print-next : (code : ℕ) (chart : Chart) (trace : List ℕ) (standing : Standing) (line : List ℕ)
      → Both (λ (r : Printed) (exit : List ℕ). (r ≡ printed_of (length line) code chart trace standing) × (exit ≡ line_after code chart trace standing line) × (r.length ≤ length line))

-- lines/src/lib.rt
pub record LinesUnique : Type 0 where
  pub digit : (n : ℕ) → One (λ (r : ℕ). r ≡ digit (n % 16))
  pub put : (line : List ℕ) (at : ℕ) (bytes : List ℕ) → Both (λ (r : ℕ) (exit : List ℕ). Puts (length bytes) line at bytes exit r)
  pub put-decimal : (line : List ℕ) (at n : ℕ) → Both (λ (r : ℕ) (exit : List ℕ). Puts 20 line at (decimal n) exit r)
  pub put_word : (line : List ℕ) (at k n : ℕ) → Both (λ (r : ℕ) (exit : List ℕ). Puts (k + 1) line at (text " " ++ hex k n) exit r)
  pub put-named : (line : List ℕ) (at : ℕ) (name : List ℕ) (n : ℕ) → Both (λ (r : ℕ) (exit : List ℕ). Puts (length name + 20) line at (name ++ decimal n) exit r)
  pub put-line : (line : List ℕ) (at : ℕ) (name : List ℕ) (n : ℕ) → Both (λ (r : ℕ) (exit : List ℕ). Puts (length name + 21) line at (named_line name n) exit r)
  pub chart-line : (line : List ℕ) (at code : ℕ) → Both (λ (r : ℕ) (exit : List ℕ). Puts 35 line at (chart_line code) exit r)

-- weights/src: listing, words
pub record WeightsUnique : Type 0 where
  pub says : (line : List ℕ) → One (λ (r : Said). r ≡ says_of line)
  pub list : (text weights : List ℕ) → Both (λ (r : Listed) (exit : List ℕ). (r.fault ≡ fault_in text) × Put weights 0 (take (length weights) (weights_in text)) exit r.count)

-- page/src: page
pub record PageUnique : Type 0 where
  pub page-line : (heard : Heard) (n : ℕ) (sources targets : List ℕ) (initial : ℕ) (weights : List ℕ) (k : ℕ) (line : List ℕ)
      → Both (λ (r : ℕ) (exit : List ℕ). Puts 512 line 0 (page_line heard n sources targets initial weights k) exit r × (r ≤ length line))

pub record Unique : Type 0 where
  pub sets : SetsUnique
  pub fields : FieldsUnique
  pub chart : ChartUnique
  pub judging : JudgingUnique
  pub reader : ReaderUnique
  pub choice : ChoiceUnique
  pub index : IndexUnique
  pub acting : ActingUnique
  pub run : RunUnique
  pub passes : PassesUnique
  pub cycle : CycleUnique
  pub stepping : SteppingUnique
  pub calls : CallsUnique
  pub key : KeyUnique
  pub shift : ShiftUnique
  pub trace : TraceUnique
  pub tally : TallyUnique
  pub adding : AddingUnique
  pub writer : WriterUnique
  pub lines : LinesUnique
  pub report : ReportUnique
  pub weights : WeightsUnique
  pub page : PageUnique
