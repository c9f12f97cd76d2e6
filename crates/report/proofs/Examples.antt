-- The definitions compute on examples.
use Prim.Native.Nat.{ℕ}
use mathlib.Core.List.{List, [], ◌∷◌, ◌++◌}
use mathlib.Core.Path.{◌≡◌, refl}
use Rattle.sets.specs.Loops.{all, some, summed, first_code, table_from, turns}
use Rattle.sets.specs.Sets.{collect}
use Rattle.fields.specs.Fields.{transition_code}
use Rattle.chart.specs.Held.{steps_code, actions_code, transitions_code, blocks_code, cases_code, some_initial, timed_for, timed_twice, held_code}
use Rattle.chart.specs.Initial.{initial_set}
use Rattle.reader.specs.Framing.{record_number}
use Rattle.reader.specs.Bodies.{body_at}
use Rattle.reader.specs.Reading.{read_from}
use Rattle.reader.proofs.reading.Examples.{chart_a}
use Rattle.choice.specs.Choice.{reason, chosen, reasons_of}
use Rattle.acting.specs.Acting.{asked, acted}
use Rattle.passes.specs.Moving.{marks_of}
use Rattle.trace.specs.Tracing.{call_at}
use Rattle.lines.specs.Lines.{text, hex, decimal_from}
use Rattle.report.specs.Wording.{accepted_line, refused_line, reasons_line, trace_line, tally_line}
use Rattle.report.specs.Printing.{printed_from, printed_run}

refused-lines : refused_line 3 11 ++ trace_line ≡ text "3 refused 11\nrefused trace 16\n"
unfolding refused_line trace_line decimal_from
refused-lines = refl

-- a digit for each transition, and an empty line where there is none
reason-lines : reasons_line 7 (0 ∷ 1 ∷ 2 ∷ 3 ∷ 4 ∷ 5 ∷ 6 ∷ []) ++ reasons_line 0 [] ≡ text "0123456\n\n"
unfolding reasons_line table_from
reason-lines = refl

-- Chart A over its trace: start 1000; 1010 with 1; 1510 with 2.
trace_a : List ℕ
trace_a =
    4 ∷ 0 ∷ 17 ∷ 0 ∷ 232 ∷ 3 ∷ 0 ∷ 0 ∷ 8 ∷ 0 ∷ 16 ∷ 0 ∷ 242 ∷ 3 ∷ 0 ∷ 0 ∷ 1 ∷ 0 ∷ 0 ∷ 0 ∷ 8 ∷ 0 ∷ 16 ∷ 0 ∷ 230 ∷ 5 ∷ 0 ∷ 0 ∷ 2 ∷ 0 ∷
    0 ∷ 0 ∷ []

printed-a : printed_run chart_a trace_a
    ≡ text "0 0000000000000001 00000000 0000000000000000\n1 0000000000000002 00000003 0000000000000001\n2 0000000000000001 00000000 0000000000000002\npassed 1 failed 0 notrun 0\n"
unfolding chart_a trace_a printed_from call_at hex decimal_from accepted_line refused_line reasons_line tally_line all some summed first_code table_from turns collect record_number steps_code actions_code transitions_code blocks_code cases_code some_initial timed_for timed_twice held_code read_from transition_code body_at marks_of initial_set reason chosen reasons_of asked acted
printed-a = refl

-- With the last clock 1509 nothing is taken: transition 0's source is not active, and transition 1's wait is not over.
waiting_a : List ℕ
waiting_a =
    4 ∷ 0 ∷ 17 ∷ 0 ∷ 232 ∷ 3 ∷ 0 ∷ 0 ∷ 8 ∷ 0 ∷ 16 ∷ 0 ∷ 242 ∷ 3 ∷ 0 ∷ 0 ∷ 1 ∷ 0 ∷ 0 ∷ 0 ∷ 8 ∷ 0 ∷ 16 ∷ 0 ∷ 229 ∷ 5 ∷ 0 ∷ 0 ∷ 2 ∷ 0 ∷
    0 ∷ 0 ∷ []

printed-waiting : printed_run chart_a waiting_a
    ≡ text "0 0000000000000001 00000000 0000000000000000\n1 0000000000000002 00000003 0000000000000001\n2 0000000000000002 00000003 0000000000000000\n14\npassed 0 failed 0 notrun 1\n"
unfolding chart_a waiting_a printed_from call_at hex decimal_from accepted_line refused_line reasons_line tally_line all some summed first_code table_from turns collect record_number steps_code actions_code transitions_code blocks_code cases_code some_initial timed_for timed_twice held_code read_from transition_code body_at marks_of initial_set reason chosen reasons_of asked acted
printed-waiting = refl
