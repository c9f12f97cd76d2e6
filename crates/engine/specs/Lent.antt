-- What a shift leaves with its caller, each part where it was lent.
use Rattle.std.specs.Prelude.{ℕ, List, ℤ}
use Rattle.run.specs.declared.run.Run.{Run}
use Rattle.shift.specs.Shifting.{Done}

-- the number, how many cycles were accepted, the run, the activity words and the outputs
abbrev pub ShiftLeft : Type 0
ShiftLeft = ℕ × ℕ × Run × List ℕ × List ℤ

abbrev pub shift_left : Done → ShiftLeft
shift_left (s, activities, out) = (s.code, s.accepted, s.run, activities, out)
