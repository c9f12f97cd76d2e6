use Prim.Native.Nat.{◌*◌, min}
use Rattle.chart.specs.Held.{Seen}
use Rattle.chart.proofs.chart.Chart.timed_twice.Given as goal

abbrev pub invariant-loop-sixteen : goal.invariant-loop-sixteen
invariant-loop-sixteen l = Seen l.self.blockaction l.self.qualifier l.seen l.twice (min (16 * l.sixteen) l.n)
