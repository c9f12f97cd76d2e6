use Rattle.text.specs.Answer.{stray_of, pen_of}
use Rattle.text.proofs.reading.Laws.{Going}
use Rattle.text.proofs.saying.Draft.read.Given as goal

abbrev pub invariant-loop-at : goal.invariant-loop-at
invariant-loop-at l = Going l.bytes l.state (pen_of l.pen) (stray_of l.self.stray) l.self.actions l.self.chart l.at
