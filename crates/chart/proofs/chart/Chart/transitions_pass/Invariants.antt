use mathlib.Core.Path.{◌≡◌}
use Rattle.sets.specs.Loops.{all}
use Rattle.chart.specs.Held.{transition_passes_at}
use Rattle.chart.proofs.chart.Chart.transitions_pass.Given as goal

abbrev pub invariant-loop-t : goal.invariant-loop-t
invariant-loop-t l = l.pass ≡ all (transition_passes_at l.self.steps l.self.actions l.self.sources l.self.targets l.self.on l.self.off l.self.wait) l.t
