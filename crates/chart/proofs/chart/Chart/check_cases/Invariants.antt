use Prim.Native.Nat.{◌+◌}
use mathlib.Core.Path.{◌≡◌}
use lib.Dec.{leb, ltb}
use lib.ListN.{get_or}
use Rattle.sets.specs.Loops.{all}
use Rattle.chart.proofs.chart.Chart.check_cases.Given as goal

abbrev pub invariant-loop-i : goal.invariant-loop-i
invariant-loop-i l = record {
  named : l.named ≡ all (λ j. ltb (get_or l.self.casestep j 0) l.self.steps) l.i;
  heard : l.heard ≡ all (λ j. ltb (get_or l.self.signal j 0) (32 + l.self.actions)) l.i;
  fit : l.fit ≡ all (λ j. leb (get_or l.self.expected j 0) 1) l.i;
}
