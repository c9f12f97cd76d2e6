-- By the chart's own number: zeros, or the index.
use Rattle.std.proofs.Common.{ap}
use Rattle.index.specs.Building.{indexed_as}
use Rattle.index.proofs.building.index_of.Goals as goal

pub returns : goal.returns
returns c = rw (← c.in_ok-check.ensures) (ap (indexed_as 0) c.leaving_of.ensures.0)
