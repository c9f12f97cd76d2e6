-- One byte.
use borrow.Author.Rules.{rules}
use Rattle.reader.proofs.bodies.Laws.{edition-fields}
use Rattle.reader.proofs.bodies.edition_at.Goals as goal

pub returns : goal.returns
returns c = rw (edition-fields c.args.bytes.now c.args.at) (search rules)
