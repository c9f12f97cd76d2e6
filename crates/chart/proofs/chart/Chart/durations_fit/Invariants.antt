use mathlib.Core.Path.{◌≡◌}
use Rattle.sets.specs.Loops.{all}
use Rattle.chart.specs.Held.{duration_fits_at}
use Rattle.chart.proofs.chart.Chart.durations_fit.Given as goal

abbrev pub invariant-loop-i : goal.invariant-loop-i
invariant-loop-i l = l.fit ≡ all (duration_fits_at l.self.qualifier l.self.duration) l.i
