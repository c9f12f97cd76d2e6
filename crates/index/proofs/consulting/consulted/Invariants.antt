use Rattle.sets.proofs.Visits.{Led}
use Rattle.index.specs.Consulting.{consulted}
use Rattle.index.proofs.consulting.Laws.{joining}
use Rattle.index.proofs.consulting.consulted.Given as goal

abbrev pub invariant-loop-k : goal.invariant-loop-k
invariant-loop-k l = Led (joining l.index) l.active l.k-iterator.rest (consulted l.n l.index l.active) l.leaving
