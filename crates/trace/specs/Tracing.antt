-- "a trace on standard input: one start record (kind 17, body 4: clock) and then cycle records (kind 16, body 8: clock, inputs), framed
-- as in the chart file and ended by the end of input."
use Rattle.std.specs.Prelude.{ℕ, ◌+◌, ◌-◌, Bool, ◌&&◌, cond, List, length, eqb, leb, ltb}
use Rattle.fields.specs.Fields.{unless}
use Rattle.reader.specs.Numbers.{le}
use Rattle.reader.specs.Framing.{length_at, kind_at}
use Rattle.trace.specs.Answer.{Call}
use Rattle.trace.specs.Answer.{Start, Cycle, End, Refused}

-- the first record stands at 0: "a start record is exactly the first"
abbrev pub kind_due : ℕ → ℕ
kind_due at = cond (eqb at 0) 17 16

abbrev pub body_due : ℕ → ℕ
body_due at = cond (eqb at 0) 4 8

-- not "cut, unknown, of wrong length, begins at byte 65,528 or later, or a start record is not exactly the first": a head with this
-- kind and length, and so many bytes left from its place on
abbrev pub head_fits : ℕ → ℕ → ℕ → ℕ → Bool
head_fits at left kind length =
    ltb at 65528 && eqb kind (kind_due at) && eqb length (body_due at) && leb (body_due at + 4) left

abbrev pub record_fits : List ℕ → ℕ → Bool
record_fits s at = head_fits at (length s - at) (kind_at s at) (length_at s at)

-- "ended by the end of input"
abbrev pub is_over : List ℕ → ℕ → Bool
is_over s at = leb (length s) at

-- the number of what stands at a place: 0 for a record and for the end of input
abbrev pub trace_number : List ℕ → ℕ → ℕ
trace_number s at = cond (is_over s at) 0 (unless (record_fits s at) 16)

abbrev pub clock_at : List ℕ → ℕ → ℕ
clock_at s at = le 4 s (at + 4)

abbrev pub inputs_at : List ℕ → ℕ → ℕ
inputs_at s at = le 4 s (at + 8)

abbrev pub record_at : List ℕ → ℕ → Call
record_at s at = cond (eqb at 0) (Start (clock_at s at)) (Cycle (clock_at s at) (inputs_at s at))

unfoldable pub call_at : List ℕ → ℕ → Call
call_at s at = cond (is_over s at) End (cond (record_fits s at) (record_at s at) Refused)
