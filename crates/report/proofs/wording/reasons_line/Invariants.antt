-- The digits of the reasons passed are written.
use Rattle.report.proofs.wording.Laws.{Digits}
use Rattle.report.proofs.wording.reasons_line.Given as goal

abbrev pub invariant-loop-t : goal.invariant-loop-t
invariant-loop-t l = Digits l.initial.line l.at l.n l.reasons l.t l.line
