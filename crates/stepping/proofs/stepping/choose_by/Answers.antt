-- With an index those that are consulted are enough.
use Rattle.std.proofs.Common.{length, ltb}
use Rattle.sets.proofs.Loops.{neither}
use Rattle.run.specs.Apart.{counts_of}
use Rattle.index.proofs.consulting.Laws.{taken-by}
use Rattle.stepping.proofs.stepping.choose_by.Goals as goal

pub returns : goal.returns
returns c =
    let a = c.args in
    let chart = a.chart.now in
    let run = a.run.now in
    taken-by run.hold chart.edition chart.transitions chart.sources chart.targets chart.on chart.off chart.wait (counts_of run.counters) a.index.now run.active a.signals _ _ (neither (ltb (length a.index.now) 64) _ c.if-index-run.false).1 c.requires c.consulted-consulted.ensures c.choose_from.ensures
