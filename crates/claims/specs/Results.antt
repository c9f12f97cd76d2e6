-- "Prove that two answers allowed by one statement are equal": the public functions whose answer is a Result, an Option or a struct, or that change where it
-- lies what they are lent, by the statement in their source. The others are in Unique.antt.
use Rattle.std.specs.Prelude.{ℕ, ◌%◌, ◌^◌, ◌≤◌, min, Bool, true, false, cond, List, Option, Result, ◌≡◌, eqb, ltb, ℤ, pos, length, get_or, take}
use Rattle.refusals.specs.Refusals.{number, code_of}
use Rattle.refusals.specs.declared.Refusal.{Refusal}
use Rattle.sets.specs.Bytes.{Put}
use Rattle.sets.specs.Loops.{all}
use Rattle.sets.specs.Visiting.{Visits}
use Rattle.sets.specs.declared.Unvisited.{Unvisited}
use Rattle.fields.specs.Fields.{action_fits, transition_code, block_fits, case_fits}
use Rattle.fields.specs.Qualifiers.{names}
use Rattle.fields.specs.declared.Action.{Action}
use Rattle.fields.specs.declared.Transition.{Transition}
use Rattle.fields.specs.declared.Block.{Block}
use Rattle.fields.specs.declared.Case.{Case}
use Rattle.fields.specs.declared.Qualifier.{Qualifier}
use Rattle.chart.specs.Chart.{empty_chart, with_step, with_action, with_transition, with_block, with_case}
use Rattle.chart.specs.Held.{closing_code, chart_code}
use Rattle.chart.specs.Initial.{initial_set}
use Rattle.chart.specs.declared.chart.Chart.{Chart}
use Rattle.judging.specs.Judging.{body_code}
use Rattle.judging.specs.declared.Body.{Body}
use Rattle.reader.specs.Framing.{Answers}
use Rattle.reader.specs.Answer.{next_of, reading_in, reading_of}
use Rattle.reader.specs.Reading.{read_chart}
use Rattle.reader.specs.declared.framing.Fault.{Fault}
use Rattle.reader.specs.declared.framing.Record.{Record}
use Rattle.grammar.specs.Answer.{Answers as TextAnswers}
use Rattle.run.specs.Run.{no_run, counter, timer, longer}
use Rattle.run.specs.Apart.{counts_of, times_of}
use Rattle.run.specs.Belongs.{belongs, own_code}
use Rattle.run.specs.Tables.{fit_in, grown_in, cleared_in}
use Rattle.run.specs.declared.run.StepCounter.{StepCounter}
use Rattle.run.specs.declared.run.ActionTimer.{ActionTimer}
use Rattle.run.specs.declared.run.Run.{Run}
use Rattle.choice.specs.Choice.{none_taken, choosing, chosen_under, chosen_from, reasons_of, held_reasons}
use Rattle.choice.specs.Reason.{number as digit_of}
use Rattle.choice.specs.declared.Choice.{Choice}
use Rattle.choice.specs.declared.reasons.Reason.{Reason}
use Rattle.acting.specs.Acting.{request_at, none_asked, asked, acted}
use Rattle.acting.specs.declared.Steps.{Steps}
use Rattle.acting.specs.declared.Request.{Request}
use Rattle.acting.specs.declared.Asked.{Asked}
use Rattle.acting.specs.declared.Acted.{Acted}
use Rattle.index.specs.Building.{index_of, built_of}
use Rattle.index.specs.Consulting.{index_after, consultable}
use Rattle.index.specs.Answer.{indexed_of}
use Rattle.passes.specs.Rests.{rests}
use Rattle.passes.specs.Time.{elapsed, step_time, grown_counts}
use Rattle.passes.specs.Moving.{signals_of, marks_of}
use Rattle.passes.specs.Outputs.{written}
use Rattle.passes.specs.declared.moving.Marks.{Marks}
use Rattle.cycle.specs.Cycling.{ready_by, start_of, cycle_of, cycle_by, outputs_after}
use Rattle.cycle.specs.Stepping.{all_kept}
use Rattle.cycle.specs.Calling.{calls_as, calls_by}
use Rattle.cycle.specs.Answer.{cycled_as, started_as}
use Rattle.cycle.specs.declared.cycling.Cycle.{Cycle}
use Rattle.cycle.specs.declared.calling.Went.{Went}
use Rattle.cycle.specs.declared.calling.Stopped.{Stopped}
use Rattle.key.specs.Turning.{turn_of}
use Rattle.key.specs.Answer.{turned_by}
use Rattle.shift.specs.Shifting.{lists_code, shift_of, shift_by}
use Rattle.shift.specs.Answer.{shifted_as}
use Rattle.trace.specs.Tracing.{call_at, trace_number}
use Rattle.trace.specs.Answer.{call_of}
use Rattle.trace.specs.declared.tracing.Call.{Call as TraceCall}
use Rattle.tally.specs.Tallying.{tally_of}
use Rattle.tally.specs.Weighing.{weigh_of}
use Rattle.tally.specs.Answer.{tallied_of, weighed_of, names_14}
use Rattle.tally.specs.declared.answer.Tally.{Tally}
use Rattle.tally.specs.declared.answer.Unweighed.{Unweighed}
use Rattle.tally.specs.declared.answer.Unweighed.TheVariants.{Refused as unweighed}
use Rattle.adding.specs.Adding.{added_after, add_of, sum_after, sum_of}
use Rattle.adding.specs.Answer.{added_from, which}
use Rattle.adding.specs.declared.adding.Unadded.{Unadded}
use Rattle.adding.specs.declared.adding.Unadded.TheVariants.{Refused as unadded}
use Rattle.writer.specs.Writing.{write_chart}
use Rattle.writer.specs.Answer.{Writing, writing_of}
use Rattle.report.specs.Printing.{printed_of, line_after}
use Rattle.report.specs.Answer.{printed_as}
use Rattle.report.specs.declared.printing.Standing.{Standing}
use Rattle.lines.specs.Lines.{Puts}
use Rattle.weights.specs.Words.{says_of}
use Rattle.weights.specs.Listing.{fault_in, weights_in}
use Rattle.weights.specs.Answer.{said_as, place}
use Rattle.weights.specs.declared.listing.Listed.{Listed}
use Rattle.weights.specs.declared.words.Unreadable.{Unreadable}
use Rattle.page.specs.Page.{page_line}
use Rattle.page.specs.Answer.{heard_as}
use Rattle.page.specs.declared.page.Heard.{Heard as PageHeard}
use Rattle.claims.specs.Unique.{One, Both}

-- accepted, or why not
abbrev pub Outcome : Type 0
Outcome = Result (Unit {0}) Refusal

-- refusals/src/lib.rt
pub record RefusalsResults : Type 0 where
  pub unless : (ok : Bool) (refusal : Refusal) → One (λ (r : Outcome). code_of r ≡ cond ok 0 (number refusal))
  pub number : (self : Refusal) → One (λ (r : ℕ). r ≡ number self)
  pub code_of : (answer : Outcome) → One (λ (r : ℕ). r ≡ code_of answer)

-- sets/src/lib.rt
pub record SetsResults : Type 0 where
  pub each : (s : ℕ) → One (λ (r : Unvisited). r.rest ≡ s)
  pub next : (self : Unvisited) → Both (λ (r : Option ℕ) (exit : Unvisited). Visits self r exit)

-- fields/src/lib.rt
pub record FieldsResults : Type 0 where
  pub try_from : (byte : ℕ) → One (λ (r : Result Qualifier Refusal). names byte r)
  pub Action-fits : (self : Action) → One (λ (r : Bool). r ≡ action_fits self.output)
  pub Transition-check : (self : Transition) (steps actions : ℕ)
      → One (λ (r : Outcome). code_of r ≡ transition_code steps actions self.sources self.targets self.on self.off self.wait)
  pub Transition-passes : (self : Transition) (steps actions : ℕ)
      → One (λ (r : Bool). r ≡ eqb (transition_code steps actions self.sources self.targets self.on self.off self.wait) 0)
  pub Block-fits : (self : Block) (steps actions : ℕ) → One (λ (r : Bool). r ≡ block_fits steps actions self.step self.action self.qualifier self.duration)
  pub Case-fits : (self : Case) (steps actions : ℕ) → One (λ (r : Bool). r ≡ case_fits steps actions self.step self.signal self.expected)

-- chart/src: chart, held, initial
pub record ChartResults : Type 0 where
  pub empty : (edition : ℕ) → One (λ (r : Chart). r ≡ empty_chart edition)
  pub check : (self : Chart) → One (λ (r : Outcome). code_of r ≡ chart_code self)
  pub check_whole : (self : Chart) → One (λ (r : Outcome). code_of r ≡ closing_code self.steps self.blocks self.initial self.blockaction self.qualifier)
  pub initial_set : (self : Chart) → One (λ (r : ℕ). r ≡ initial_set self.steps self.initial)
  pub action : (self : Chart) (a : ℕ) → One (λ (r : Action). r ≡ record { output = get_or self.output a 0; value = get_or self.value a (pos 0) })
  pub transition : (self : Chart) (t : ℕ)
      → One (λ (r : Transition). r ≡ record { sources = get_or self.sources t 0; targets = get_or self.targets t 0; on = get_or self.on t 0; off = get_or self.off t 0; wait = get_or self.wait t 0 })
  pub block : (self : Chart) (i : ℕ)
      → One (λ (r : Block). r ≡ record { step = get_or self.blockstep i 0; action = get_or self.blockaction i 0; qualifier = get_or self.qualifier i 0; duration = get_or self.duration i 0 })
  pub case : (self : Chart) (i : ℕ)
      → One (λ (r : Case). r ≡ record { step = get_or self.casestep i 0; signal = get_or self.signal i 0; expected = get_or self.expected i 0 })
  pub push_step : (self : Chart) (initial : ℕ) → One (λ (exit : Chart). exit ≡ with_step self initial)
  pub push_action : (self : Chart) (action : Action) → One (λ (exit : Chart). exit ≡ with_action self action.output action.value)
  pub push_transition : (self : Chart) (transition : Transition)
      → One (λ (exit : Chart). exit ≡ with_transition self transition.sources transition.targets transition.on transition.off transition.wait)
  pub push_block : (self : Chart) (block : Block) → One (λ (exit : Chart). exit ≡ with_block self block.step block.action block.qualifier block.duration)
  pub push_case : (self : Chart) (case : Case) → One (λ (exit : Chart). exit ≡ with_case self case.step case.signal case.expected)

-- judging/src/lib.rt
pub record JudgingResults : Type 0 where
  pub check : (self : Body) (chart : Chart)
      → One (λ (r : Outcome). code_of r ≡ body_code chart.steps chart.actions chart.transitions chart.blocks chart.cases chart.edition self)

-- reader/src: framing, reading
pub record ReaderResults : Type 0 where
  pub record_at : (bytes : List ℕ) (at before : ℕ) → One (λ (r : Result (Option Record) Fault). Answers (next_of r) bytes at before)
  pub read_into : (bytes : List ℕ) → Both (λ (r : Result (Unit {0}) Fault) (exit : Chart). reading_in r exit ≡ read_chart bytes)
  pub read_chart : (bytes : List ℕ) → One (λ (r : Result Chart Fault). reading_of r ≡ read_chart bytes)

-- text/src: reading
pub record TextResults : Type 0 where
  pub read_text : (bytes : List ℕ) → One (λ (r : Result Chart Fault). TextAnswers bytes (reading_of r))

-- run/src: belongs, lasting, run, tables; what is generic for either table
pub record RunResults : Type 0 where
  pub zero : One (λ (r : Run). r ≡ no_run)
  pub belongs : (self : Run) (chart : Chart) → One (λ (r : Bool). r ≡ belongs chart self)
  pub check : (self : Run) (chart : Chart) → One (λ (r : Outcome). code_of r ≡ own_code chart self)
  pub StepCounter-ms : (self : StepCounter) → One (λ (r : ℕ). r ≡ self.0)
  pub StepCounter-of : (n : ℕ) → One (λ (r : StepCounter). r ≡ counter n)
  pub StepCounter-longer : (self : StepCounter) (elapsed : ℕ) → One (λ (r : StepCounter). r ≡ counter (longer elapsed self.0))
  pub ActionTimer-ms : (self : ActionTimer) → One (λ (r : ℕ). r ≡ self.0)
  pub ActionTimer-of : (n : ℕ) → One (λ (r : ActionTimer). r ≡ timer n)
  pub ActionTimer-longer : (self : ActionTimer) (elapsed : ℕ) → One (λ (r : ActionTimer). r ≡ timer (longer elapsed self.0))
  pub StepCounter-fits : (table : List StepCounter) (set n : ℕ) → One (λ (r : Bool). r ≡ fit_in (λ c. c.0) counter table set n)
  pub StepCounter-grow : (table : List StepCounter) (set elapsed n : ℕ) → One (λ (exit : List StepCounter). exit ≡ grown_in (λ c. c.0) counter table set elapsed n)
  pub StepCounter-clear : (table : List StepCounter) (gone n : ℕ) → One (λ (exit : List StepCounter). exit ≡ cleared_in counter table gone n)
  pub ActionTimer-fits : (table : List ActionTimer) (set n : ℕ) → One (λ (r : Bool). r ≡ fit_in (λ t. t.0) timer table set n)
  pub ActionTimer-grow : (table : List ActionTimer) (set elapsed n : ℕ) → One (λ (exit : List ActionTimer). exit ≡ grown_in (λ t. t.0) timer table set elapsed n)
  pub ActionTimer-clear : (table : List ActionTimer) (gone n : ℕ) → One (λ (exit : List ActionTimer). exit ≡ cleared_in timer table gone n)

-- choice/src: lib, reasons
pub record ChoiceResults : Type 0 where
  pub none : One (λ (r : Choice). r ≡ none_taken)
  pub choose_one : (edition : ℕ) (choice : Choice) (t : ℕ) (transition : Transition) (counters : List StepCounter) (active signals : ℕ)
      → One (λ (r : Choice). r ≡ choosing edition choice t transition.sources transition.targets transition.on transition.off transition.wait (counts_of counters) active signals)
  pub Reason-number : (self : Reason) → One (λ (r : ℕ). r ≡ digit_of self)
  pub explain : (chart : Chart) (counters : List StepCounter) (active signals : ℕ)
      → One (λ (r : List ℕ). r ≡ reasons_of 0 chart.edition chart.transitions chart.sources chart.targets chart.on chart.off chart.wait (counts_of counters) active signals)
  pub hold_all : (n : ℕ) → One (λ (r : List ℕ). r ≡ held_reasons n)

-- acting/src/lib.rt
pub record ActingResults : Type 0 where
  pub asks : (step action qualifier duration : ℕ) (counters : List StepCounter) (timers : List ActionTimer) (steps : Steps)
      → One (λ (r : Request). r ≡ request_at (step % 64) qualifier duration (get_or (counts_of counters) (step % 64) 0) (get_or (times_of timers) (action % 32) 0) steps)
  pub none : One (λ (r : Asked). r ≡ none_asked)

-- index/src: building, consulting
pub record IndexResults : Type 0 where
  pub leaving_of : (n : ℕ) (sources : List ℕ) → One (λ (r : List ℕ). (r ≡ index_of n sources) × (all (λ t. ltb (get_or sources t 0) (2 ^ 64)) (min n 64) ≡ true))
  pub index_of : (chart : Chart) → One (λ (r : Result (List ℕ) Refusal). indexed_of r ≡ built_of chart)
  pub check_index : (chart : Chart) (index : List ℕ)
      → One (λ (r : Outcome). (code_of r ≡ index_after (chart_code chart) chart.transitions chart.sources index) × (code_of r ≡ 0 → (length index ≡ 0 → ⊥) → all (λ t. ltb (get_or chart.sources t 0) (2 ^ 64)) (min chart.transitions 64) ≡ true))

-- passes/src: asking, choosing, explaining, moving, outputs
pub record PassesResults : Type 0 where
  pub choose : (chart : Chart) (run : Run) (signals : ℕ)
      → One (λ (r : Choice). r ≡ chosen_under run.hold chart.edition (min chart.transitions 64) chart.sources chart.targets chart.on chart.off chart.wait (counts_of run.counters) run.active signals)
  pub choose_from : (chart : Chart) (consulted : ℕ) (run : Run) (signals : ℕ)
      → One (λ (r : Choice). r ≡ chosen_from chart.edition consulted chart.sources chart.targets chart.on chart.off chart.wait (counts_of run.counters) run.active signals)
  pub marks_of : (chart : Chart) (left signals : ℕ)
      → One (λ (r : Marks). r ≡ marks_of (min chart.cases 64) (rests 64 chart.casestep) (rests 64 chart.signal) chart.expected left signals)
  pub ask_blocks : (chart : Chart) (counters : List StepCounter) (timers : List ActionTimer) (steps : Steps)
      → One (λ (r : Asked). r ≡ asked (min chart.blocks 256) (rests 64 chart.blockstep) (rests 32 chart.blockaction) chart.qualifier chart.duration (counts_of counters) (times_of timers) steps)
  pub write_outputs : (out : List ℤ) (chart : Chart) (activity : ℕ) → One (λ (exit : List ℤ). exit ≡ written (min chart.actions 32) (rests 32 chart.output) chart.value activity out)
  pub explain : (chart : Chart) (run : Run) (clock inputs : ℕ)
      → One (λ (r : List ℕ). r ≡ reasons_of run.hold chart.edition chart.transitions chart.sources chart.targets chart.on chart.off chart.wait (grown_counts run.counters run.active (step_time run.hold (elapsed run.clock clock))) run.active (signals_of inputs run.activity))

-- cycle/src: calling, cycling
pub record CycleResults : Type 0 where
  pub Stopped-from : (refusal : Refusal) → One (λ (r : Stopped). r ≡ record { refusal = refusal; accepted = 0 })
  pub Refusal-from : (stopped : Stopped) → One (λ (r : Refusal). r ≡ stopped.refusal)
  pub ready : (chart : Chart) (index : List ℕ) (run : Run) (lent : ℕ) → One (λ (r : Outcome). (code_of r ≡ ready_by chart index run lent) × (code_of r ≡ 0 → consultable chart.transitions chart.sources index ≡ true))

-- stepping/src: calling, stepping
pub record SteppingResults : Type 0 where
  pub settle : (outputs : List ℤ) (chart : Chart) (counters : List StepCounter) (timers : List ActionTimer) (steps : Steps) (stored latched : ℕ)
      → Both (λ (r : Acted) (exit : List ℤ). (r ≡ acted (asked (min chart.blocks 256) (rests 64 chart.blockstep) (rests 32 chart.blockaction) chart.qualifier chart.duration (counts_of counters) (times_of timers) (all_kept steps)) stored latched) × (exit ≡ written (min chart.actions 32) (rests 32 chart.output) chart.value r.activity outputs))
  pub cycles_on : (chart : Chart) (index : List ℕ) (run : Run) (clocks inputs activities : List ℕ) (outputs : List ℤ)
      → Both (λ (r : Result Went Stopped) (exit : Run × List ℕ × List ℤ). calls_as r exit.0 exit.1 exit.2 ≡ calls_by chart index run clocks inputs activities outputs)

-- calls/src: cycling, starting
pub record CallsResults : Type 0 where
  pub start : (chart : Chart) (clock : ℕ) (outputs : List ℤ)
      → Both (λ (r : Result Run Refusal) (exit : List ℤ). (started_as r ≡ start_of chart clock (length outputs)) × (exit ≡ outputs_after chart (started_as r) outputs))
  pub cycle : (chart : Chart) (run : Run) (clock inputs : ℕ) (outputs : List ℤ)
      → Both (λ (r : Result Cycle Refusal) (exit : Run × List ℤ). (cycled_as r exit.0 ≡ cycle_of chart run clock inputs (length outputs)) × (exit.1 ≡ outputs_after chart (cycled_as r exit.0) outputs))
  pub cycle_by : (chart : Chart) (index : List ℕ) (run : Run) (clock inputs : ℕ) (outputs : List ℤ)
      → Both (λ (r : Result Cycle Refusal) (exit : Run × List ℤ). (cycled_as r exit.0 ≡ cycle_by chart index run clock inputs (length outputs)) × (exit.1 ≡ outputs_after chart (cycled_as r exit.0) outputs))

-- key/src: turning
pub record KeyResults : Type 0 where
  pub hold : (chart : Chart) (run : Run) → Both (λ (r : Outcome) (exit : Run). turned_by r exit ≡ turn_of true chart run)
  pub release : (chart : Chart) (run : Run) → Both (λ (r : Outcome) (exit : Run). turned_by r exit ≡ turn_of false chart run)

-- shift/src: shifting
pub record ShiftResults : Type 0 where
  pub check_lists : (clocks inputs activities : ℕ) → One (λ (r : Outcome). code_of r ≡ lists_code clocks inputs activities)
  pub shift : (chart : Chart) (run : Run) (clocks inputs activities : List ℕ) (outputs : List ℤ)
      → Both (λ (r : Result ℕ Stopped) (exit : Run × List ℕ × List ℤ). shifted_as r exit.0 exit.1 exit.2 ≡ shift_of chart run clocks inputs activities outputs)
  pub shift_by : (chart : Chart) (index : List ℕ) (run : Run) (clocks inputs activities : List ℕ) (outputs : List ℤ)
      → Both (λ (r : Result ℕ Stopped) (exit : Run × List ℕ × List ℤ). shifted_as r exit.0 exit.1 exit.2 ≡ shift_by chart index run clocks inputs activities outputs)

-- trace/src: tracing
pub record TraceResults : Type 0 where
  pub call_at : (trace : List ℕ) (at : ℕ) → One (λ (r : Result (Option TraceCall) Refusal). (call_of r ≡ call_at trace at) × (code_of r ≡ trace_number trace at))

-- tally/src: answer, tallying, weighing
pub record TallyResults : Type 0 where
  pub Unweighed-from : (refusal : Refusal) → One (λ (r : Unweighed). r ≡ unweighed refusal)
  pub tally : (chart : Chart) (run : Run) → One (λ (r : Result Tally Refusal). tallied_of r ≡ tally_of chart run)
  pub weigh : (chart : Chart) (weights : List ℕ) → One (λ (r : Result ℕ Unweighed). (weighed_of r ≡ weigh_of chart weights) × names_14 r)

-- adding/src: adding
pub record AddingResults : Type 0 where
  pub Unadded-from : (refusal : Refusal) → One (λ (r : Unadded). r ≡ unadded refusal)
  pub add_steps : (n : ℕ) (first second sum : List ℕ)
      → Both (λ (r : Result (Unit {0}) Unadded) (exit : List ℕ). (added_from r ≡ added_after 0 n first second (length sum)) × (exit ≡ sum_after 0 n first second sum) × which 0 r)
  pub add : (chart : Chart) (first second sum : List ℕ)
      → Both (λ (r : Result (Unit {0}) Unadded) (exit : List ℕ). (added_from r ≡ add_of chart first second (length sum)) × (exit ≡ sum_of chart first second sum) × which (chart_code chart) r)

-- writer/src: writing
pub record WriterResults : Type 0 where
  pub write_chart : (chart : Chart) (bytes : List ℕ) → Both (λ (r : Result ℕ Refusal) (exit : List ℕ). ◌≡◌ {A = Writing × List ℕ} (writing_of r, exit) (write_chart chart bytes))

-- report/src: printing
pub record ReportResults : Type 0 where
  pub print_next : (code : ℕ) (chart : Chart) (trace : List ℕ) (standing : Standing) (line : List ℕ)
      → Both (λ (r : ℕ) (exit : Standing × List ℕ). (printed_as r exit.0 ≡ printed_of (length line) code chart trace standing) × (exit.1 ≡ line_after code chart trace standing line) × (r ≤ length line))

-- weights/src: listing, words
pub record WeightsResults : Type 0 where
  pub says : (line : List ℕ) → One (λ (r : Result (Option ℕ) Unreadable). said_as r ≡ says_of line)
  pub list : (text weights : List ℕ) → Both (λ (r : Listed) (exit : List ℕ). (r.fault ≡ place (fault_in text)) × Put weights 0 (take (length weights) (weights_in text)) exit r.count)

-- page/src: page
pub record PageResults : Type 0 where
  pub page_line : (heard : PageHeard) (chart : Chart) (initial : ℕ) (weights : List ℕ) (k : ℕ) (line : List ℕ)
      → Both (λ (r : ℕ) (exit : List ℕ). Puts 512 line 0 (page_line (heard_as heard) chart.transitions chart.sources chart.targets initial weights k) exit r × (r ≤ length line))

pub record Results : Type 0 where
  pub refusals : RefusalsResults
  pub sets : SetsResults
  pub fields : FieldsResults
  pub chart : ChartResults
  pub judging : JudgingResults
  pub reader : ReaderResults
  pub text : TextResults
  pub run : RunResults
  pub choice : ChoiceResults
  pub acting : ActingResults
  pub index : IndexResults
  pub passes : PassesResults
  pub cycle : CycleResults
  pub stepping : SteppingResults
  pub calls : CallsResults
  pub key : KeyResults
  pub shift : ShiftResults
  pub trace : TraceResults
  pub tally : TallyResults
  pub adding : AddingResults
  pub writer : WriterResults
  pub report : ReportResults
  pub weights : WeightsResults
  pub page : PageResults
