-- "The printed run": its lines call by call, and all of it.
use Rattle.std.specs.Prelude.{ℕ, zero, suc, ◌+◌, ◌/◌, ◌≤◌, Bool, true, false, ◌&&◌, cond, List, [], ◌++◌, ◌≡◌, length, eqb, leb}
use Rattle.sets.specs.Bytes.{over}
use Rattle.chart.specs.declared.chart.Chart.{Chart}
use Rattle.reader.specs.Reading.{read_chart}
use Rattle.run.specs.Run.{no_run}
use Rattle.run.specs.declared.run.Run.{Run}
use Rattle.cycle.specs.Cycling.{start_of, cycle_of}
use Rattle.cycle.specs.Answer.{Cycled}
use Rattle.trace.specs.Tracing.{call_at}
use Rattle.trace.specs.Answer.{Call}
use Rattle.trace.specs.Answer.{Start, Cycle, End, Refused}
use Rattle.tally.specs.Tallying.{tally_of}
use Rattle.tally.specs.Answer.{Tallied}
use Rattle.lines.specs.Lines.{chart_line}
use Rattle.report.specs.Wording.{accepted_line, refused_line, reasons_line, trace_line, tally_line}
use Rattle.report.specs.declared.printing.Standing.{Standing}
use Rattle.report.specs.Answer.{Printed}

-- ---- the lines of a call and of the end

abbrev pub call_line : ℕ → ℕ → ℕ → ℕ → ℕ → List ℕ
call_line number code active activity taken =
    cond (eqb code 0) (accepted_line number active activity taken) (refused_line number code)

abbrev pub line_of : ℕ → Cycled → List ℕ
line_of number o = call_line number o.code o.run.active o.run.activity o.taken

-- document 02, request (vi): "bench-run, when an accepted cycle takes nothing, prints a second line with the reason of every transition"
abbrev pub second_line : ℕ → Cycled → List ℕ
second_line transitions o = cond (eqb o.code 0 && eqb o.taken 0) (reasons_line transitions o.reasons) []

abbrev pub cycle_lines : Chart → ℕ → Cycled → List ℕ
cycle_lines c number o = line_of number o ++ second_line c.transitions o

-- a refused tally prints as a refused call, not as three counts; in a printed run it is never refused
abbrev pub closing_line : ℕ → Tallied → List ℕ
closing_line number t = cond (eqb t.code 0) (tally_line t.passed t.failed t.notrun) (refused_line number t.code)

-- ---- all of it

-- what stands at a place of the trace: the line of call n, and `onward` prints on from the next place with the run that the call
-- returned; "A refused cycle .. and the run goes on"; "Otherwise the tally ends the run". The bench lends 32 outputs.
abbrev pub printed_at : Chart → ℕ → ℕ → Run → Call → (ℕ → Run → List ℕ) → List ℕ
printed_at c n at run (Start clock) onward = line_of n (start_of c clock 32) ++ onward (at + 8) (start_of c clock 32).run
printed_at c n at run (Cycle clock inputs) onward = cycle_lines c n (cycle_of c run clock inputs 32) ++ onward (at + 12) (cycle_of c run clock inputs 32).run
printed_at c n at run End onward = tally_line (tally_of c run).passed (tally_of c run).failed (tally_of c run).notrun
printed_at c n at run Refused onward = trace_line

-- from call n at a place on, with the run so far; at most so many records more. "Calls, refused ones too, are numbered from 0."
unfoldable pub printed_from : ℕ → Chart → List ℕ → ℕ → ℕ → Run → List ℕ
printed_from zero c s n at run = []
printed_from (suc more) c s n at run = printed_at c n at run (call_at s at) (printed_from more c s (n + 1))

-- all that is printed for the bytes of a chart and of a trace; a record takes bytes, so there are no more records than bytes
abbrev pub printed_run : List ℕ → List ℕ → List ℕ
printed_run chart trace =
    cond (eqb (read_chart chart).code 0) (printed_from (length trace + 1) (read_chart chart).chart trace 0 0 no_run)
    (chart_line (read_chart chart).code)

-- ---- one step of it

-- the call whose record stands at a place: the start takes 8 bytes and each cycle 12
abbrev pub number_at : ℕ → ℕ
number_at at = (at + 4) / 12

abbrev pub opening : Standing
opening = record { done = false; at = 0; run = no_run }

abbrev pub stepped : ℕ → Bool → ℕ → Run → Printed
stepped length done at run = record { length = length; standing = record { done = done; at = at; run = run } }

abbrev pub unmoved : Standing → Printed
unmoved standing = record { length = 0; standing = standing }

abbrev pub line_for : Chart → ℕ → Run → Call → List ℕ
line_for c at run (Start clock) = line_of (number_at at) (start_of c clock 32)
line_for c at run (Cycle clock inputs) = cycle_lines c (number_at at) (cycle_of c run clock inputs 32)
line_for c at run End = closing_line (number_at at) (tally_of c run)
line_for c at run Refused = trace_line

abbrev pub standing_for : Chart → ℕ → Run → Call → Standing
standing_for c at run (Start clock) = record { done = false; at = at + 8; run = (start_of c clock 32).run }
standing_for c at run (Cycle clock inputs) = record { done = false; at = at + 12; run = (cycle_of c run clock inputs 32).run }
standing_for c at run End = record { done = true; at = at; run = run }
standing_for c at run Refused = record { done = true; at = at; run = run }

-- a line t, or a cycle's two, put at the front of the bytes e, and where the printing then stands
pub record Prints (e t : List ℕ) (then : Standing) (now : List ℕ) (r : Printed) : Type 0 where
  pub line : now ≡ over e 0 t
  pub answer : r ≡ record { length = length t; standing = then }
  pub short : length t ≤ 129

-- the next line, with a cycle's second behind it, none when it is done; `code` is the reading's number
unfoldable pub next_line : ℕ → Chart → List ℕ → Standing → List ℕ
next_line code c s st =
    cond st.done [] (cond (eqb code 0) (line_for c st.at st.run (call_at s st.at)) (chart_line code))

unfoldable pub next_standing : ℕ → Chart → List ℕ → Standing → Standing
next_standing code c s st =
    cond st.done st
    (cond (eqb code 0) (standing_for c st.at st.run (call_at s st.at)) (record { done = true; at = st.at; run = st.run }))

-- a lent buffer of fewer than 129 bytes is refused: no line, and the printing stands where it stood
abbrev pub printed_of : ℕ → ℕ → Chart → List ℕ → Standing → Printed
printed_of lent code c s st =
    cond (leb 129 lent) (record { length = length (next_line code c s st); standing = next_standing code c s st }) (unmoved st)

abbrev pub line_after : ℕ → Chart → List ℕ → Standing → List ℕ → List ℕ
line_after code c s st line = cond (leb 129 (length line)) (over line 0 (next_line code c s st)) line

-- ---- step after step: where the printing then stands, and the lines in their order

unfoldable pub standing_after : ℕ → ℕ → Chart → List ℕ → Standing → Standing
standing_after zero code c s st = st
standing_after (suc k) code c s st = standing_after k code c s (next_standing code c s st)

unfoldable pub lines_of : ℕ → ℕ → Chart → List ℕ → Standing → List ℕ
lines_of zero code c s st = []
lines_of (suc k) code c s st = next_line code c s st ++ lines_of k code c s (next_standing code c s st)
