-- One cycle where the run lies: its words, and its counters and timers as plain numbers.
use Rattle.std.specs.Prelude.{ℕ, List, ℤ}
use Rattle.chart.specs.declared.chart.Chart.{Chart}
use Rattle.acting.specs.declared.Steps.{Steps}
use Rattle.run.specs.declared.run.Run.{Run}
use Rattle.cycle.specs.Cycling.{cycled, outputs_after}

-- the steps that blocks go by once the counters are those of the steps as they are now: each of them counts
abbrev pub all_kept : Steps → Steps
all_kept steps = record { active = steps.active; entered = steps.entered; left = steps.left; kept = 18446744073709551615 }

-- the transitions taken, the run and the outputs: a step makes no reasons
abbrev pub Moved : Type 0
Moved = ℕ × Run × List ℤ

abbrev pub moved_on : Chart → Run → ℕ → ℕ → List ℤ → Moved
moved_on c r clock inputs out = ((cycled c r clock inputs).taken, (cycled c r clock inputs).run, outputs_after c (cycled c r clock inputs) out)
