-- The starred "Bench examples" of document 01: one table, each row computed from the definitions, from the chart or from the file's bytes.
use Prim.{tt}
use Rattle.std.specs.Prelude.{ℕ, Bool, true, false, List, [], ◌∷◌, ◌++◌, ◌≡◌, refl, pos, get_or, replicate}
use Rattle.std.proofs.Common.{arith, le-ltb, lit<}
use Rattle.sets.specs.Loops.{all, some, summed, first_code, table, table_from, turns}
use Rattle.sets.specs.Sets.{has, collect}
use Rattle.fields.specs.Fields.{N, R, S, L, D, SD, DS, SL, P1, P0, transition_code}
use Rattle.chart.specs.Chart.{empty_chart, no_chart, with_step, with_action, with_transition, with_block}
use Rattle.chart.specs.Held.{steps_code, actions_code, transitions_code, blocks_code, cases_code, some_initial, timed_for, timed_twice, held_code, chart_code}
use Rattle.chart.specs.Initial.{initial_set}
use Rattle.chart.specs.declared.chart.Chart.{Chart}
use Rattle.reader.specs.Framing.{record_number}
use Rattle.reader.specs.Bodies.{body_at}
use Rattle.reader.specs.Reading.{read_from, read_chart}
use Rattle.reader.proofs.reading.Examples.{chart_a}
use Rattle.choice.specs.Choice.{reason, chosen, reasons_of}
use Rattle.index.specs.Building.{index_of, built_of}
use Rattle.index.specs.Consulting.{consulted}
use Rattle.acting.specs.Acting.{request, ripens, asked, acted}
use Rattle.acting.specs.declared.Steps.{Steps}
use Rattle.run.specs.Run.{counter}
use Rattle.run.specs.declared.run.Run.{Run}
use Rattle.passes.specs.Time.{elapsed}
use Rattle.passes.specs.Choosing.{steps_of}
use Rattle.passes.specs.Moving.{signals_of, marks_of}
use Rattle.passes.specs.Outputs.{first, outputs_of}
use Rattle.cycle.specs.Cycling.{start_of, counts_at, choice_of, cycle_of, cycle_by, outputs_after}
use Rattle.cycle.specs.Answer.{Cycled}
use Rattle.cycle.specs.Calling.{singly}
use Rattle.key.specs.Turning.{marked, turn_of}
use Rattle.shift.specs.Shifting.{Done, shift_of}
use Rattle.tally.specs.Tallying.{tally_of}
use Rattle.tally.specs.Weighing.{weight_in, unbalanced, weigh_of}
use Rattle.adding.specs.Adding.{sums, unfit, added_as, add_of, sum_of}
use Rattle.claims.specs.Counters.{counter_in}
use Rattle.claims.specs.Runs.{Call, cycle, after, listed, history, how_many, arrivals, departures, begun}
use Rattle.claims.specs.Stored.{set_in, reset_in, answer_to}
use Rattle.claims.proofs.Weights.{weighed-apart}

-- a start and a cycle with 32 outputs lent
abbrev began : Chart → ℕ → Run
began c clock = (start_of c clock 32).run

abbrev then : Chart → Run → ℕ → ℕ → Cycled
then c r clock inputs = cycle_of c r clock inputs 32

-- chart A as it is read from its 152 bytes, started at 1000, its call 1 at 1010 with input 0, and a last call at 1509 with input 1
abbrev a : Chart
a = (read_chart chart_a).chart

abbrev a1 : Cycled
a1 = then a (began a 1000) 1010 1

abbrev a2 : Cycled
a2 = then a a1.run 1509 2

-- one initial step
abbrev alone : Chart
alone = with_step (empty_chart 1) 1

-- one initial step with a block of one action
abbrev timed : ℕ → ℕ → Chart
timed qualifier duration = with_block (with_action alone 0 (pos 1)) 0 0 qualifier duration

-- steps 0 and 1 initial, 0→2 and 1→2, no signal asked
abbrev rivals : Chart
rivals = with_transition (with_transition (with_step (with_step (with_step (empty_chart 1) 1) 1) 0) 1 4 0 0 0) 2 4 0 0 0

abbrev once : Cycled
once = then rivals (began rivals 0) 10 0

-- fork 0→{1, 2}, step 0 initial
abbrev pub fork : Chart
fork = with_transition (with_step (with_step (with_step (empty_chart 1) 1) 0) 0) 1 6 0 0 0

pub record Starred : Type 0 where
  -- "Chart A, last clock 1509: no transition, activity 3, case not run."
  pub none-taken : a2.taken ≡ 0
  pub three-active : a2.run.activity ≡ 3
  pub not-run : tally_of a a2.run ≡ record { code = 0; passed = 0; failed = 0; notrun = 1 }
  -- "Chart A, call 1: output 0 is 120, by table order."
  pub first-output : get_or (outputs_after a a1 (replicate 32 (pos 9))) 0 (pos 9) ≡ pos 120
  -- "Last clock 4,294,967,000, new 200: elapsed 496."
  pub over-the-turn : elapsed 4294967000 200 ≡ 496
  -- "Elapsed 60,000 accepted; 60,001 refused 11; clock one back refused 11."
  pub minute : (then alone (began alone 5000) 65000 0).code ≡ 0
  pub more : (then alone (began alone 5000) 65001 0).code ≡ 11
  pub back : (then alone (began alone 5000) 4999 0).code ≡ 11
  -- "L 100: counter 99 active, 100 not. D 100: 99 not, 100 active."
  pub limited-before : (then (timed L 100) (began (timed L 100) 0) 99 0).run.activity ≡ 1
  pub limited-at : (then (timed L 100) (began (timed L 100) 0) 100 0).run.activity ≡ 0
  pub delayed-before : (then (timed D 100) (began (timed D 100) 0) 99 0).run.activity ≡ 0
  pub delayed-at : (then (timed D 100) (began (timed D 100) 0) 100 0).run.activity ≡ 1
  -- "SD 0 is active when latched; SL 0 never."
  pub stored-delayed : (began (timed SD 0) 0).activity ≡ 1
  pub stored-limited : (began (timed SL 0) 0).activity ≡ 0
  pub stored-limited-ever : (on entered left : Bool) (count time : ℕ) → ripens (request SL 0 on entered left count time) ≡ false
  -- "Steps 0 and 1 initial, 0→2 and 1→2 both true: only the first is taken, and the next cycle takes none."
  pub first_taken : once.taken ≡ 1
  pub next-none : (then rivals once.run 20 0).taken ≡ 0
  -- "Fork 0→{1,2}, weights 2,1,1, 0 initial: total 2, so 0 and 1 are never together; weights 2,1,2 refused 14, transition 0."
  pub fork-total : weigh_of fork (2 ∷ 1 ∷ 1 ∷ []) ≡ record { code = 0; transition = 0; total = 2 }
  pub fork-apart : (clock : ℕ) (xs : List Call) → has (after fork (begun fork clock 32) xs).active 0 ≡ true → has (after fork (begun fork clock 32) xs).active 1 ≡ true → ⊥
  pub fork-refused : weigh_of fork (2 ∷ 1 ∷ 2 ∷ []) ≡ record { code = 14; transition = 0; total = 0 }

pub starred : Starred
unfolding chart_a all some summed first_code table_from turns collect record_number transition_code body_at steps_code actions_code transitions_code blocks_code cases_code some_initial timed_for timed_twice held_code read_from reason chosen reasons_of marks_of initial_set asked acted first outputs_of weight_in unbalanced
starred = record {
  none-taken = refl;
  three-active = refl;
  not-run = refl;
  first-output = refl;
  over-the-turn = refl;
  minute = refl;
  more = refl;
  back = refl;
  limited-before = refl;
  limited-at = refl;
  delayed-before = refl;
  delayed-at = refl;
  stored-delayed = refl;
  stored-limited = refl;
  stored-limited-ever = λ on entered left count time. le-ltb time 0 (omega arith);
  first_taken = refl;
  next-none = refl;
  fork-total = refl;
  fork-apart = λ clock xs. weighed-apart fork (2 ∷ 1 ∷ 1 ∷ []) refl clock 32 refl xs 0 1 (lit< tt) (lit< tt) (λ e. omega arith) (lit< tt);
  fork-refused = refl;
}

-- document 02, request (vi), each reason: chart A waits at step 1, for the wait of its second transition; of the rivals the second finds its
-- target claimed, and in the next cycle occupied
abbrev reasons_from : List ℕ → ℕ → List ℕ
reasons_from l more = l ++ replicate more 0

-- step 0 initial, 0→1 and 0→2, the second by input 0
abbrev branch : Chart
branch = with_transition (with_transition (with_step (with_step (with_step (empty_chart 1) 1) 0) 0) 1 2 0 0 0) 1 4 1 0 0

-- the same with input 1 asked of the first
abbrev asking : Chart
asking = with_transition (with_transition (with_step (with_step (with_step (empty_chart 1) 1) 0) 0) 1 2 2 0 0) 1 4 1 0 0

pub record Waiting : Type 0 where
  pub wait : a2.reasons ≡ reasons_from (1 ∷ 4 ∷ []) 62
  pub claimed : once.reasons ≡ reasons_from (0 ∷ 6 ∷ []) 62
  pub occupied : (then rivals once.run 20 0).reasons ≡ reasons_from (1 ∷ 5 ∷ []) 62
  pub used : (then branch (began branch 0) 10 1).reasons ≡ reasons_from (0 ∷ 2 ∷ []) 62
  pub signal : (then asking (began asking 0) 10 1).reasons ≡ reasons_from (3 ∷ 0 ∷ []) 62
  pub late : (then asking (began asking 0) 60001 3).reasons ≡ reasons_from [] 64

pub waiting : Waiting
unfolding chart_a all some summed first_code table_from turns collect record_number transition_code body_at steps_code actions_code transitions_code blocks_code cases_code some_initial timed_for timed_twice held_code read_from reason chosen reasons_of marks_of initial_set asked acted
waiting = record { wait = refl; claimed = refl; occupied = refl; used = refl; signal = refl; late = refl }

-- document 02, request (vii): chart A held in step 1 from 1010 on, a cycle under hold at 1600, and released; its step has then been active for 0 ms
abbrev held_run : Chart → Run → Run
held_run c r = (turn_of true c r).run

abbrev freed : Chart → Run → Run
freed c r = (turn_of false c r).run

abbrev a_held : Cycled
a_held = then a (held_run a a1.run) 1600 2

-- one initial step with a timed block, held from the start on, and a cycle under hold at this clock
abbrev timed_held : ℕ → ℕ → ℕ → Cycled
timed_held qualifier duration clock = then (timed qualifier duration) (held_run (timed qualifier duration) (began (timed qualifier duration) 0)) clock 0

pub record Holding : Type 0 where
  pub none-taken : a_held.taken ≡ 0
  pub sevens : a_held.reasons ≡ reasons_from (7 ∷ 7 ∷ []) 62
  pub as-usual : a_held.run.activity ≡ 3
  pub not-run : tally_of a a_held.run ≡ record { code = 0; passed = 0; failed = 0; notrun = 1 }
  pub clock-kept : a_held.run.clock ≡ 1600
  pub stood : (then a (freed a a_held.run) 2099 2).taken ≡ 0
  pub waited : (then a (freed a a_held.run) 2100 2).taken ≡ 2
  pub held-twice : (turn_of true a a_held.run).code ≡ 0
  pub other-mark : (turn_of false a (marked 2 a1.run)).code ≡ 12
  pub late : (then a (held_run a a1.run) 61011 2).code ≡ 11
  pub limited : (timed_held L 100 100).run.activity ≡ 1
  pub delayed : (timed_held D 100 100).run.activity ≡ 0
  pub stored-delayed : (timed_held SD 100 100).run.activity ≡ 1
  pub stored-limited : (timed_held SL 100 100).run.activity ≡ 0

pub holding : Holding
unfolding chart_a all some summed first_code table_from turns collect record_number transition_code body_at steps_code actions_code transitions_code blocks_code cases_code some_initial timed_for timed_twice held_code read_from reason chosen reasons_of marks_of initial_set asked acted
holding = record {
  none-taken = refl;
  sevens = refl;
  as-usual = refl;
  not-run = refl;
  clock-kept = refl;
  stood = refl;
  waited = refl;
  held-twice = refl;
  other-mark = refl;
  late = refl;
  limited = refl;
  delayed = refl;
  stored-delayed = refl;
  stored-limited = refl;
}

-- document 02, request (viii): steps 0 and 1 initial, 0→1 and 1→0, no signal asked; action 0 pulses where step 0 is entered, action 1 where it is left
abbrev swap : ℕ → Chart
swap edition =
    with_block (with_block (with_transition (with_transition
    (with_action (with_action (with_step (with_step (empty_chart edition) 1) 1) 0 (pos 1)) 1 (pos 1)) 1 2 0 0 0) 2 1 0 0 0) 0 0 P1 0) 0 1 P0 0

abbrev swapped : ℕ → Cycled
swapped edition = then (swap edition) (began (swap edition) 0) 10 0

-- the same with 0→1 alone: its target is active and not left
abbrev pushed : Chart
pushed = with_transition (with_step (with_step (empty_chart 2) 1) 1) 1 2 0 0 0

abbrev push : Cycled
push = then pushed (began pushed 0) 10 0

abbrev push_calls : List Call
push_calls = cycle (record { clock = 10; inputs = 0; lent = 32 }) ∷ []

-- the steps that a cycle leaves, enters and keeps
abbrev steps : Chart → ℕ → Steps
steps c clock = let r = began c 0 in steps_of r.active (choice_of c r (counts_at r clock) (signals_of 0 r.activity))

pub record Editions : Type 0 where
  -- edition 1 takes none
  pub first-none : (swapped 1).taken ≡ 0
  pub first-why : (swapped 1).reasons ≡ reasons_from (5 ∷ 5 ∷ []) 62
  pub first-steps : steps (swap 1) 10 ≡ record { active = 3; entered = 0; left = 0; kept = 3 }
  -- edition 2 takes both, both steps stay active, both are left and entered, and both counters are 0
  pub second-both : (swapped 2).taken ≡ 3
  pub second-why : (swapped 2).reasons ≡ reasons_from [] 64
  pub second-steps : steps (swap 2) 10 ≡ record { active = 3; entered = 3; left = 3; kept = 0 }
  pub second-active : (swapped 2).run.active ≡ 3
  pub second-counters : (get_or (swapped 2).run.counters 0 (counter 7) ≡ counter 0) × (get_or (swapped 2).run.counters 1 (counter 7) ≡ counter 0)
  pub second-pulses : (swapped 2).run.activity ≡ 3
  -- the active target is not entered and its counter runs on; its arrivals are one more than the equation would have
  pub pushed-taken : push.taken ≡ 1
  pub pushed-steps : steps pushed 10 ≡ record { active = 2; entered = 0; left = 1; kept = 2 }
  pub pushed-counter : get_or push.run.counters 1 (counter 7) ≡ counter 10
  pub pushed-arrivals : arrivals pushed 1 (history pushed (began pushed 0) push_calls) ≡ 1
  pub pushed-departures : departures pushed 1 (history pushed (began pushed 0) push_calls) ≡ 0
  pub pushed-active : has (after pushed (began pushed 0) push_calls).active 1 ≡ true
  -- a held chart, the all-zero one of a refused reading among them; the edition comes before "no initial step"
  pub held-zero : chart_code no_chart ≡ 5
  pub held-three : chart_code (with_step (empty_chart 3) 1) ≡ 5
  pub held_none : chart_code (empty_chart 2) ≡ 9

pub editions : Editions
unfolding all some summed first_code table_from turns collect transition_code steps_code actions_code transitions_code blocks_code cases_code some_initial timed_for timed_twice held_code reason chosen reasons_of marks_of initial_set asked acted after history listed how_many
editions = record {
  first-none = refl;
  first-why = refl;
  first-steps = refl;
  second-both = refl;
  second-why = refl;
  second-steps = refl;
  second-active = refl;
  second-counters = (refl, refl);
  second-pulses = refl;
  pushed-taken = refl;
  pushed-steps = refl;
  pushed-counter = refl;
  pushed-arrivals = refl;
  pushed-departures = refl;
  pushed-active = refl;
  held-zero = refl;
  held-three = refl;
  held_none = refl;
}

-- document 02, request (ix): chart A's index as README.md has it, and the fork's; a cycle by an index that is not exactly that
abbrev indexed : List ℕ → ℕ → List ℕ
indexed words zeros = words ++ replicate zeros 0

abbrev by_index : List ℕ → Cycled
by_index index = cycle_by a index (began a 1000) 1010 1 32

pub record Indexed : Type 0 where
  pub of-a : (built_of a).leaving ≡ indexed (1 ∷ 2 ∷ []) 62
  pub of-the-fork : (built_of fork).leaving ≡ indexed (1 ∷ []) 63
  pub of-no-chart : built_of no_chart ≡ record { code = 5; leaving = replicate 64 0 }
  pub consults-one : consulted 2 (indexed (1 ∷ 2 ∷ []) 62) 1 ≡ 1
  pub consults-all : consulted 2 [] 1 ≡ 3
  pub taken : (by_index (indexed (1 ∷ 2 ∷ []) 62)).taken ≡ 1
  pub why : (by_index (indexed (1 ∷ 2 ∷ []) 62)).reasons ≡ reasons_from (0 ∷ 1 ∷ []) 62
  pub left_out : (by_index (indexed (1 ∷ []) 63)).code ≡ 20
  pub no_source : (by_index (indexed (1 ∷ 3 ∷ []) 62)).code ≡ 20
  pub no-transition : (by_index (indexed (1 ∷ 6 ∷ []) 62)).code ≡ 20
  pub no_step : (by_index (indexed (1 ∷ 2 ∷ 1 ∷ []) 61)).code ≡ 20
  pub of-targets : (by_index (indexed (2 ∷ 1 ∷ []) 62)).code ≡ 20

pub indexes : Indexed
unfolding chart_a all some summed first_code table_from turns collect record_number transition_code body_at steps_code actions_code transitions_code blocks_code cases_code some_initial timed_for timed_twice held_code read_from reason chosen reasons_of marks_of initial_set asked acted index_of consulted
indexes = record {
  of-a = refl;
  of-the-fork = refl;
  of-no-chart = refl;
  consults-one = refl;
  consults-all = refl;
  taken = refl;
  why = refl;
  left_out = refl;
  no_source = refl;
  no-transition = refl;
  no_step = refl;
  of-targets = refl;
}

-- document 02, request (xi): docs/ASSESSOR.md works this chart through by hand. Steps idle (initial), closing, braking, opening, each left by an input of its
-- own; actions jog and clamp, both on output 0, and power. Closing clamps after 200 ms (DS), braking jogs (N), opening resets the clamp (R), and idle sets power (S)
abbrev clamp : Chart
clamp =
    with_block (with_block (with_block (with_block
    (with_transition (with_transition (with_transition (with_transition
    (with_action (with_action (with_action (with_step (with_step (with_step (with_step (empty_chart 1) 1) 0) 0) 0) 0 (pos 5)) 0 (pos 1)) 1 (pos 1))
    1 2 1 0 0) 2 4 2 0 0) 4 8 4 0 0) 8 1 8 0 0)
    1 1 DS 200) 2 0 N 0) 3 1 R 0) 0 2 S 0

abbrev at : ℕ → ℕ → Call
at clock inputs = cycle (record { clock = clock; inputs = inputs; lent = 32 })

-- the start at 1000 is call 0; call 5 goes back in time and is refused
abbrev clamp_calls : List Call
clamp_calls = at 1010 1 ∷ at 1209 0 ∷ at 1210 0 ∷ at 1300 2 ∷ at 1290 4 ∷ at 1400 4 ∷ at 1500 8 ∷ []

-- what a caller sees of a call that answered o, and what it did to the clamp, action 1, and to power, action 2: number, active steps, counter of
-- closing; set, reset, stored; set, stored
abbrev Seen : Type 0
Seen = ℕ × ℕ × ℕ × Bool × Bool × Bool × Bool × Bool

abbrev seen : Cycled → Seen
seen o = (o.code, o.run.active, counter_in o.run 1, set_in clamp o 1, reset_in clamp o 1, has o.run.stored 1, set_in clamp o 2, has o.run.stored 2)

pub record Clamping : Type 0 where
  pub calls : table (λ n. seen (answer_to clamp (start_of clamp 1000 32) clamp_calls n)) 8
      ≡ (0, 1, 0, false, false, false, true, true)
      ∷ (0, 2, 0, false, false, false, false, true)
      ∷ (0, 2, 199, false, false, false, false, true)
      ∷ (0, 2, 200, true, false, true, false, true)
      ∷ (0, 4, 0, false, false, true, false, true)
      ∷ (11, 4, 0, false, false, true, false, true)
      ∷ (0, 8, 0, false, true, false, false, true)
      ∷ (0, 1, 0, false, false, false, true, true)
      ∷ []
  -- jog, earlier in the table, drives the clamp's output while it brakes
  pub jogs : get_or (outputs_after clamp (answer_to clamp (start_of clamp 1000 32) clamp_calls 4) (replicate 32 (pos 9))) 0 (pos 9) ≡ pos 5

pub clamping : Clamping
unfolding all some summed first_code table_from turns collect transition_code steps_code actions_code transitions_code blocks_code cases_code some_initial timed_for timed_twice held_code reason chosen reasons_of marks_of initial_set asked acted first outputs_of answer_to
clamping = record { calls = refl; jogs = refl }

-- idle (initial), pressurising, venting, recording, recorded: docs/ASSESSOR.md weighs this chart by hand
abbrev brake : Chart
brake =
    with_transition (with_transition (with_transition (with_transition
    (with_step (with_step (with_step (with_step (with_step (empty_chart 1) 1) 0) 0) 0) 0) 1 10 0 0 0) 2 4 0 0 0) 8 16 0 0 0) 20 1 0 0 0

pub brake-total : weigh_of brake (3 ∷ 2 ∷ 2 ∷ 1 ∷ 1 ∷ []) ≡ record { code = 0; transition = 0; total = 3 }
unfolding all some summed first_code collect steps_code actions_code transitions_code transition_code blocks_code cases_code some_initial timed_twice held_code initial_set weight_in unbalanced
brake-total = refl

-- document 02, request (x): these weights are twice the first and once the second
abbrev pressure : List ℕ
pressure = 1 ∷ 1 ∷ 1 ∷ 0 ∷ 0 ∷ []

abbrev records : List ℕ
records = 1 ∷ 0 ∷ 0 ∷ 1 ∷ 1 ∷ []

-- added into a list of five nines
abbrev plus : List ℕ → List ℕ → List ℕ
plus first second = sum_of brake first second (replicate 5 9)

pub record Adding : Type 0 where
  pub first-total : weigh_of brake pressure ≡ record { code = 0; transition = 0; total = 1 }
  pub second-total : weigh_of brake records ≡ record { code = 0; transition = 0; total = 1 }
  pub accepted : add_of brake pressure records 5 ≡ added_as 0 0
  pub one-of-each : plus pressure records ≡ 2 ∷ 1 ∷ 1 ∷ 1 ∷ 1 ∷ []
  pub two-and-one : plus pressure (plus pressure records) ≡ 3 ∷ 2 ∷ 2 ∷ 1 ∷ 1 ∷ []
  pub total : weigh_of brake (plus pressure (plus pressure records)) ≡ record { code = 0; transition = 0; total = 3 }
  -- 65,535 with 0 fits, with 1 it doesn't: the first such step is named and nothing is written
  pub fits : add_of brake (replicate 5 65535) (replicate 5 0) 5 ≡ added_as 0 0
  pub too_large : add_of brake (replicate 5 65535) (0 ∷ 0 ∷ 1 ∷ 1 ∷ 0 ∷ []) 5 ≡ added_as 21 2
  pub unwritten : plus (replicate 5 65535) (0 ∷ 0 ∷ 1 ∷ 1 ∷ 0 ∷ []) ≡ replicate 5 9
  pub too_short : add_of brake pressure records 4 ≡ added_as 13 0

pub adding : Adding
unfolding all some summed first_code table_from collect steps_code actions_code transitions_code transition_code blocks_code cases_code some_initial timed_twice held_code initial_set weight_in unbalanced sums unfit
adding = record {
  first-total = refl;
  second-total = refl;
  accepted = refl;
  one-of-each = refl;
  two-and-one = refl;
  total = refl;
  fits = refl;
  too_large = refl;
  unwritten = refl;
  too_short = refl;
}

-- a shift of three calls, L 10 at 9 and at 10 and then a clock one back: it stops there, with activity 1 and 0, and the third word stays
abbrev stopped : Done
stopped = shift_of (timed L 10) (began (timed L 10) 0) (9 ∷ 10 ∷ 9 ∷ []) (0 ∷ 0 ∷ 0 ∷ []) (7 ∷ 7 ∷ 7 ∷ []) (replicate 32 (pos 9))

pub shift-stops : (stopped.0.code ≡ 11) × (stopped.0.accepted ≡ 2) × (stopped.0.run.clock ≡ 10) × (stopped.1 ≡ 1 ∷ 0 ∷ 7 ∷ []) × (get_or stopped.2 0 (pos 9) ≡ pos 0)
unfolding all some summed first_code table_from turns collect steps_code actions_code transitions_code transition_code blocks_code cases_code some_initial timed_for timed_twice held_code chosen marks_of initial_set asked acted first outputs_of singly
shift-stops = (refl, refl, refl, refl, refl)
