-- Start and one cycle, for every argument.
use Rattle.std.specs.Prelude.{ℕ, List, ◌++◌, cond, ℤ, length, replicate, drop, leb, eqb}
use Rattle.sets.specs.Loops.{or_else}
use Rattle.sets.specs.Sets.{union}
use Rattle.fields.specs.Fields.{unless}
use Rattle.chart.specs.Held.{chart_code}
use Rattle.chart.specs.Initial.{initial_set}
use Rattle.chart.specs.declared.chart.Chart.{Chart}
use Rattle.choice.specs.Choice.{chosen_under, reasons_of}
use Rattle.choice.specs.declared.Choice.{Choice}
use Rattle.index.specs.Consulting.{index_after}
use Rattle.acting.specs.Acting.{asked, acted}
use Rattle.acting.specs.declared.Steps.{Steps}
use Rattle.acting.specs.declared.Acted.{Acted}
use Rattle.run.specs.Run.{no_run}
use Rattle.run.specs.Belongs.{own_after}
use Rattle.run.specs.declared.run.Run.{Run}
use Rattle.passes.specs.Time.{elapsed, step_time, grown_counts, grown_times}
use Rattle.passes.specs.Choosing.{steps_of}
use Rattle.passes.specs.Moving.{settled_counters, settled_timers, signals_of, marks_of}
use Rattle.passes.specs.Outputs.{outputs_of}
use Rattle.passes.specs.Explaining.{no_reasons}
use Rattle.passes.specs.declared.moving.Marks.{Marks}
use Rattle.cycle.specs.Answer.{Cycled}

abbrev pub refused : ℕ → Run → Cycled
refused code run = record { code = code; taken = 0; reasons = no_reasons; run = run }

abbrev pub accepted : ℕ → List ℕ → Run → Cycled
accepted taken reasons run = record { code = 0; taken = taken; reasons = reasons; run = run }

-- "Start tests 15 and then the chart"
abbrev pub start_code : Chart → ℕ → ℕ
start_code c lent = or_else (unless (leb 32 lent) 15) (chart_code c)

-- the tests of a cycle that its clock has no part in, the chart's by its number: 15, chart, 12
abbrev pub ready_after : ℕ → ℕ → ℕ → ℕ → Run → ℕ → ℕ
ready_after held steps actions cases r lent = or_else (unless (leb 32 lent) 15) (own_after held steps actions cases r)

abbrev pub ready_code : Chart → Run → ℕ → ℕ
ready_code c r lent = ready_after (chart_code c) c.steps c.actions c.cases r lent

-- "11 elapsed time above 60,000 ms"
abbrev pub late_code : Run → ℕ → ℕ
late_code r clock = unless (leb (elapsed r.clock clock) 60000) 11

-- "a cycle tests 15, chart, 12, 11"
abbrev pub cycle_code : Chart → Run → ℕ → ℕ → ℕ
cycle_code c r clock lent = or_else (ready_code c r lent) (late_code r clock)

-- paragraphs 4 and 5 on a chart's blocks
abbrev pub acted_on : Chart → List ℕ → List ℕ → Steps → ℕ → ℕ → Acted
acted_on c counts times steps stored latched =
    acted (asked c.blocks c.blockstep c.blockaction c.qualifier c.duration counts times steps) stored latched

-- the run after paragraphs 4 to 6
abbrev pub settled : ℕ → List ℕ → List ℕ → Steps → Acted → ℕ → ℕ → ℕ → Run
settled clock counts times steps acts good bad hold = record {
  clock = clock;
  active = steps.active;
  activity = acts.activity;
  stored = acts.stored;
  latched = acts.latched;
  counters = settled_counters counts steps.kept;
  timers = settled_timers times acts.latched;
  good = good;
  bad = bad;
  hold = hold;
}

-- "Start makes the initial steps active and entered, none left, all else 0, then does 4 to 6."
abbrev pub start_steps : Chart → Steps
start_steps c = record { active = initial_set c.steps c.initial; entered = initial_set c.steps c.initial; left = 0; kept = 0 }

abbrev pub started : Chart → ℕ → Cycled
started c clock =
    accepted 0 no_reasons
    (settled clock (replicate 64 0) (replicate 32 0) (start_steps c) (acted_on c (replicate 64 0) (replicate 32 0) (start_steps c) 0 0) 0 0 0)

-- "A refused start returns an all-zero run"
abbrev pub start_of : Chart → ℕ → ℕ → Cycled
start_of c clock lent = cond (eqb (start_code c lent) 0) (started c clock) (refused (start_code c lent) no_run)

-- paragraph 1: the step counters and the action timers as they have grown
abbrev pub counts_at : Run → ℕ → List ℕ
counts_at r clock = grown_counts r.counters r.active (step_time r.hold (elapsed r.clock clock))

abbrev pub times_at : Run → ℕ → List ℕ
times_at r clock = grown_times r.timers r.latched (elapsed r.clock clock)

-- paragraph 2, from what held at the cycle's beginning
abbrev pub choice_of : Chart → Run → List ℕ → ℕ → Choice
choice_of c r counts signals =
    chosen_under r.hold c.edition c.transitions c.sources c.targets c.on c.off c.wait counts r.active signals

-- and why each transition is not taken
abbrev pub reasons_in : Chart → Run → List ℕ → ℕ → List ℕ
reasons_in c r counts signals =
    reasons_of r.hold c.edition c.transitions c.sources c.targets c.on c.off c.wait counts r.active signals

-- by the counters as they have grown and the signals of the call
abbrev pub why_in : Chart → Run → ℕ → ℕ → List ℕ
why_in c r clock inputs = reasons_in c r (counts_at r clock) (signals_of inputs r.activity)

abbrev pub marks_at : Chart → ℕ → ℕ → Marks
marks_at c left signals = marks_of c.cases c.casestep c.signal c.expected left signals

-- paragraphs 3 to 6 with what was chosen
abbrev pub moved_by : Chart → Run → ℕ → List ℕ → List ℕ → ℕ → Choice → Run
moved_by c r clock counts times signals ch =
    settled clock counts times (steps_of r.active ch) (acted_on c counts times (steps_of r.active ch) r.stored r.latched)
    (union r.good (marks_at c ch.left signals).good) (union r.bad (marks_at c ch.left signals).bad) r.hold

-- paragraphs 2 to 6 once counters and timers have grown
abbrev pub gone_on : Chart → Run → ℕ → List ℕ → List ℕ → ℕ → Cycled
gone_on c r clock counts times signals =
    accepted (choice_of c r counts signals).taken (reasons_in c r counts signals) (moved_by c r clock counts times signals (choice_of c r counts signals))

abbrev pub cycled : Chart → Run → ℕ → ℕ → Cycled
cycled c r clock inputs = gone_on c r clock (counts_at r clock) (times_at r clock) (signals_of inputs r.activity)

-- "A refused .. cycle [returns] the run it was given .. with no transition taken"
abbrev pub cycle_of : Chart → Run → ℕ → ℕ → ℕ → Cycled
cycle_of c r clock inputs lent = cond (eqb (cycle_code c r clock lent) 0) (cycled c r clock inputs) (refused (cycle_code c r clock lent) r)

-- the tests before 12 where an index is lent. Document 02, request (ix): 20, "tested after the chart and before 12"
abbrev pub indexed_code : Chart → List ℕ → ℕ → ℕ
indexed_code c index lent = or_else (unless (leb 32 lent) 15) (index_after (chart_code c) c.transitions c.sources index)

-- and 12 with them: "a cycle tests 15, chart, 12, 11", but for the last
abbrev pub ready_by : Chart → List ℕ → Run → ℕ → ℕ
ready_by c index r lent = ready_after (index_after (chart_code c) c.transitions c.sources index) c.steps c.actions c.cases r lent

-- "A cycle that consults only transitions leaving some active step .. gives the same answer throughout."
abbrev pub cycle_by : Chart → List ℕ → Run → ℕ → ℕ → ℕ → Cycled
cycle_by c index r clock inputs lent = cond (eqb (indexed_code c index lent) 0) (cycle_of c r clock inputs lent) (refused (indexed_code c index lent) r)

-- "Lent outputs stay untouched by a refusal; an accepted call writes the first 32 and no others."
abbrev pub outputs_after : Chart → Cycled → List ℤ → List ℤ
outputs_after c o out =
    cond (eqb o.code 0) (outputs_of c.actions c.output c.value o.run.activity ++ drop 32 out) out

-- an answer with the outputs it leaves
abbrev pub answered : Chart → List ℤ → Cycled → Cycled × List ℤ
answered c out o = (o, outputs_after c o out)

abbrev pub cycle_on : Chart → Run → ℕ → ℕ → List ℤ → Cycled × List ℤ
cycle_on c r clock inputs out = answered c out (cycle_of c r clock inputs (length out))

abbrev pub cycle_on_by : Chart → List ℕ → Run → ℕ → ℕ → List ℤ → Cycled × List ℤ
cycle_on_by c index r clock inputs out = answered c out (cycle_by c index r clock inputs (length out))
