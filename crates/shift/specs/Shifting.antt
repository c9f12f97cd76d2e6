-- Document 02, request (iii): "The rig computer collects up to 4,096 cycles and hands them over at once, clocks and inputs in two lent lists, and
-- wants the activity word of each in a third. The result equals the calls made singly. It stops at the first refused cycle and returns the number
-- accepted and the run there, with the outputs of the last accepted cycle, untouched if there was none. Activity words behind that number stay.
-- Refusals: 15, chart, 12, then 18 when the three lists differ in length or exceed 4,096, all before any cycle, with 0 accepted and nothing
-- written; then 11, at its place."
use Rattle.std.specs.Prelude.{ℕ, List, Bool, ◌&&◌, cond, ℤ, length, leb, eqb}
use Rattle.sets.specs.Loops.{or_else}
use Rattle.fields.specs.Fields.{unless}
use Rattle.chart.specs.declared.chart.Chart.{Chart}
use Rattle.run.specs.declared.run.Run.{Run}
use Rattle.cycle.specs.Cycling.{ready_code, indexed_code}
use Rattle.cycle.specs.Calling.{Calls, singly}
use Rattle.shift.specs.Answer.{Shifted}

-- a shift's answer, its activity words and its outputs
abbrev pub Done : Type 0
Done = Shifted × List ℕ × List ℤ

abbrev pub answer_of : ℕ → ℕ → Run → Shifted
answer_of code accepted run = record { code = code; accepted = accepted; run = run }

-- "The result equals the calls made singly": what they have come to
abbrev pub done_of : Calls → Done
done_of d = (answer_of d.code d.accepted d.run, d.activities, d.outputs)

-- "18 when the three lists differ in length or exceed 4,096"
abbrev pub lists_fit : ℕ → ℕ → ℕ → Bool
lists_fit clocks inputs words = eqb clocks inputs && eqb clocks words && leb clocks 4096

abbrev pub lists_code : ℕ → ℕ → ℕ → ℕ
lists_code clocks inputs words = unless (lists_fit clocks inputs words) 18

-- no clock of lists that are refused
abbrev pub clocks_taken : ℕ → ℕ → ℕ
clocks_taken code clocks = cond (eqb code 0) clocks 0

-- "15, chart, 12, then 18"
abbrev pub shift_code : Chart → Run → ℕ → ℕ → ℕ → ℕ → ℕ
shift_code c r lent clocks inputs words = or_else (ready_code c r lent) (lists_code clocks inputs words)

-- "all before any cycle, with 0 accepted and nothing written"
abbrev pub shift_of : Chart → Run → List ℕ → List ℕ → List ℕ → List ℤ → Done
shift_of c r clocks inputs words out =
    cond (eqb (shift_code c r (length out) (length clocks) (length inputs) (length words)) 0) (done_of (singly c r clocks inputs words out (length clocks)))
    (answer_of (shift_code c r (length out) (length clocks) (length inputs) (length words)) 0 r, words, out)

-- document 02, request (ix): with an index, 20 "after the chart and before 12", and else the same
abbrev pub shift_by : Chart → List ℕ → Run → List ℕ → List ℕ → List ℕ → List ℤ → Done
shift_by c index r clocks inputs words out =
    cond (eqb (indexed_code c index (length out)) 0) (shift_of c r clocks inputs words out) (answer_of (indexed_code c index (length out)) 0 r, words, out)
