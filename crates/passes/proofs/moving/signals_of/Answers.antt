-- By members.
use Rattle.std.proofs.Common.{rules}
use Rattle.passes.proofs.moving.Laws.{or-shl-signals}
use Rattle.passes.proofs.moving.signals_of.Goals as goal

pub returns : goal.returns
returns c = or-shl-signals c.args.inputs c.args.activity (search rules)
