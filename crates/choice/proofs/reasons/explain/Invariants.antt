use mathlib.Core.Path.{◌≡◌}
use Rattle.run.specs.Apart.{counts_of}
use Rattle.choice.specs.Choice.{chosen, reasons_of}
use Rattle.choice.proofs.reasons.explain.Given as goal

abbrev pub invariant-loop-t : goal.invariant-loop-t
invariant-loop-t l =
    let c = l.chart in
    let counts = counts_of l.counters in
    record {
      choice : l.choice ≡ chosen c.edition l.t c.sources c.targets c.on c.off c.wait counts l.active l.signals;
      reasons : l.reasons ≡ reasons_of 0 c.edition l.t c.sources c.targets c.on c.off c.wait counts l.active l.signals;
    }
