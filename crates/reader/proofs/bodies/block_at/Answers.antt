-- Three bytes and a number, at their places.
use borrow.Author.Rules.{rules}
use Rattle.reader.proofs.bodies.Laws.{block-fields}
use Rattle.reader.proofs.bodies.block_at.Goals as goal

pub returns : goal.returns
returns c = rw (block-fields c.args.bytes.now c.args.at) (search rules)
