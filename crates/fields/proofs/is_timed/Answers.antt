-- By comparisons.
use Rattle.fields.proofs.Laws.{timed-ranges}
use Rattle.fields.proofs.is_timed.Goals as goal

pub returns : goal.returns
returns c = timed-ranges c.args.qualifier
