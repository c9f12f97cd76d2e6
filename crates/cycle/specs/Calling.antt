-- Calls made singly, each on the run that the one before returned, up to the first that is refused (document 02, request iii: "The result equals
-- the calls made singly. It stops at the first refused cycle").
use Rattle.std.specs.Prelude.{ℕ, suc, min, List, cond, ℤ, length, get_or, set, eqb, Result, Ok, Err}
use Rattle.refusals.specs.Refusals.{number}
use Rattle.sets.specs.Loops.{turns}
use Rattle.chart.specs.declared.chart.Chart.{Chart}
use Rattle.run.specs.Apart.{words_of, counts_of, times_of}
use Rattle.run.specs.declared.run.Run.{Run}
use Rattle.cycle.specs.Cycling.{ready_code, indexed_code, cycle_on}
use Rattle.cycle.specs.Answer.{Cycled, Went}
use Rattle.cycle.specs.declared.calling.Went.{Went as Gone}
use Rattle.cycle.specs.declared.calling.Stopped.{Stopped}

-- what calls have come to: the number that stopped them, how many were accepted, the transitions that the last of them took, the run there, the
-- activity words and the outputs
pub record Calls : Type 0 where
  pub code : ℕ
  pub accepted : ℕ
  pub taken : ℕ
  pub run : Run
  pub activities : List ℕ
  pub outputs : List ℤ

-- the code's answer with the run, the activity words and the outputs that it leaves
abbrev pub calls_as : Result Gone Stopped → Run → List ℕ → List ℤ → Calls
calls_as (Ok w) r activities out = record { code = 0; accepted = w.accepted; taken = w.taken; run = r; activities = activities; outputs = out }
calls_as (Err s) r activities out = record { code = number s.refusal; accepted = s.accepted; taken = 0; run = r; activities = activities; outputs = out }

-- none made, and why
abbrev pub no_calls : ℕ → Run → List ℕ → List ℤ → Calls
no_calls code r activities out = record { code = code; accepted = 0; taken = 0; run = r; activities = activities; outputs = out }

-- with the cycle's answer to call k and the outputs that it leaves
abbrev pub called : ℕ → List ℕ → Cycled × List ℤ → Calls
called k activities (o, out) =
    cond (eqb o.code 0)
    (record { code = 0; accepted = suc k; taken = o.taken; run = o.run; activities = set activities k o.run.activity; outputs = out })
    (record { code = o.code; accepted = k; taken = o.taken; run = o.run; activities = activities; outputs = out })

-- call k, unless one before it was refused
abbrev pub onward : Chart → List ℕ → List ℕ → ℕ → Calls → Calls
onward c clocks inputs k d =
    cond (eqb d.code 0) (called k d.activities (cycle_on c d.run (get_or clocks k 0) (get_or inputs k 0) d.outputs)) d

-- the first n calls
unfoldable pub singly : Chart → Run → List ℕ → List ℕ → List ℕ → List ℤ → ℕ → Calls
singly c r clocks inputs activities out n = turns (onward c clocks inputs) (no_calls 0 r activities out) n

-- as many as the shortest list has, once 15, the chart and 12 are tested
abbrev pub calls_on : Chart → Run → List ℕ → List ℕ → List ℕ → List ℤ → Calls
calls_on c r clocks inputs activities out =
    cond (eqb (ready_code c r (length out)) 0)
    (singly c r clocks inputs activities out (min (min (length clocks) (length inputs)) (length activities)))
    (no_calls (ready_code c r (length out)) r activities out)

-- and the index, if one is lent (document 02, request ix)
abbrev pub calls_by : Chart → List ℕ → Run → List ℕ → List ℕ → List ℕ → List ℤ → Calls
calls_by c index r clocks inputs activities out =
    cond (eqb (indexed_code c index (length out)) 0) (calls_on c r clocks inputs activities out) (no_calls (indexed_code c index (length out)) r activities out)

-- the same with the run taken apart: the answer, the counters and the timers, the activity words and the outputs
abbrev pub InParts : Type 0
InParts = Went × List ℕ × List ℕ × List ℕ × List ℤ

abbrev pub in_parts : Calls → InParts
in_parts d = (
  record { code = d.code; accepted = d.accepted; taken = d.taken; words = words_of d.run },
  counts_of d.run.counters,
  times_of d.run.timers,
  d.activities,
  d.outputs,
)
