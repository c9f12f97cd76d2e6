-- One byte.
use borrow.Author.Rules.{rules}
use Rattle.reader.proofs.bodies.Laws.{step-fields}
use Rattle.reader.proofs.bodies.step_at.Goals as goal

pub returns : goal.returns
returns c = rw (step-fields c.args.bytes.now c.args.at) (search rules)
