-- The test says which.
use Rattle.sets.proofs.with_if.Goals as goal

pub returns-then-b : goal.returns-then-b
returns-then-b c = rw c.if-b.true c.with.ensures
