-- What passed its test as an index can be consulted.
use Rattle.std.proofs.Common.{sym, refl}
use Rattle.cycle.proofs.calling.Laws.{consults}
use Rattle.cycle.proofs.cycling.ready.Goals as goal

pub returns-clause-consults : goal.returns-clause-consults
returns-clause-consults c z =
    let tested = c.in_ok-check_index.ensures in
    consults c.args.chart.now c.args.index.now (sym tested.code) (tested.words refl)
