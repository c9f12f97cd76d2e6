use Rattle.sets.proofs.Visits.{Led}
use Rattle.run.specs.Apart.{counts_of}
use Rattle.choice.specs.Choice.{choosing_at, chosen_from}
use Rattle.passes.proofs.choosing.choose_from.Given as goal

abbrev pub invariant-loop-t : goal.invariant-loop-t
invariant-loop-t l =
    let c = l.chart in
    let r = l.run in
    let counts = counts_of r.counters in
    Led (choosing_at c.edition c.sources c.targets c.on c.off c.wait counts r.active l.signals) l.consulted l.t-iterator.rest (chosen_from c.edition l.consulted c.sources c.targets c.on c.off c.wait counts r.active l.signals) l.choice
