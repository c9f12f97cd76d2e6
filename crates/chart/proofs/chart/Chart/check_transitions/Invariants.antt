use mathlib.Core.Path.{◌≡◌}
use Rattle.sets.specs.Loops.{first_code}
use Rattle.chart.specs.Held.{transition_code_at}
use Rattle.chart.proofs.chart.Chart.check_transitions.Given as goal

abbrev pub invariant-loop-t : goal.invariant-loop-t
invariant-loop-t l = first_code (transition_code_at l.self.steps l.self.actions l.self.sources l.self.targets l.self.on l.self.off l.self.wait) l.t ≡ 0
