use Rattle.passes.specs.Rests.{rests}
use Rattle.passes.proofs.moving.Laws.{Marked}
use Rattle.passes.proofs.moving.marks_of.Given as goal

abbrev pub invariant-loop-i : goal.invariant-loop-i
invariant-loop-i l =
    let c = l.chart in
    Marked (rests 64 c.casestep) (rests 64 c.signal) c.expected l.left l.signals l.i l.good l.bad
