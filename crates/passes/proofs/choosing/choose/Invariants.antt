use Rattle.std.proofs.Common.{◌≡◌}
use Rattle.sets.specs.Loops.{turns}
use Rattle.run.specs.Apart.{counts_of}
use Rattle.choice.specs.Choice.{choosing_at, none_taken}
use Rattle.passes.proofs.choosing.choose.Given as goal

abbrev pub invariant-loop-t : goal.invariant-loop-t
invariant-loop-t l =
    let c = l.chart in
    let r = l.run in
    l.choice ≡ turns (choosing_at c.edition c.sources c.targets c.on c.off c.wait (counts_of r.counters) r.active l.signals) none_taken l.t
