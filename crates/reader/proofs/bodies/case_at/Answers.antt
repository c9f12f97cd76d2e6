-- Three bytes.
use borrow.Author.Rules.{rules}
use Rattle.reader.proofs.bodies.Laws.{case-fields}
use Rattle.reader.proofs.bodies.case_at.Goals as goal

pub returns : goal.returns
returns c = rw (case-fields c.args.bytes.now c.args.at) (search rules)
