-- What a start or a cycle leaves with its caller, each part where it was lent.
use Rattle.std.specs.Prelude.{ℕ, List, ℤ}
use Rattle.run.specs.declared.run.Run.{Run}
use Rattle.cycle.specs.Answer.{Cycled}

-- the number, the transitions taken, the reasons of the others, the run and the outputs
abbrev pub Left : Type 0
Left = ℕ × ℕ × List ℕ × Run × List ℤ

abbrev pub left : Cycled × List ℤ → Left
left (o, out) = (o.code, o.taken, o.reasons, o.run, out)
