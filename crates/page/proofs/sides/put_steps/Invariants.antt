-- The steps passed that are in the set are put.
use Rattle.sets.specs.Bytes.{Put}
use Rattle.page.specs.Sides.{joined, step_at}
use Rattle.page.proofs.sides.put_steps.Given as goal

abbrev pub invariant-loop-k : goal.invariant-loop-k
invariant-loop-k l = Put l.initial.line l.at (joined (step_at l.set) l.k) l.line l.end
