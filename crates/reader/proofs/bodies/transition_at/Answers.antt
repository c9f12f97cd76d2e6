-- Four sets and a number, at their places.
use borrow.Author.Rules.{rules}
use Rattle.reader.proofs.bodies.Laws.{transition-fields}
use Rattle.reader.proofs.bodies.transition_at.Goals as goal

pub returns : goal.returns
returns c = rw (transition-fields c.args.bytes.now c.args.at) (search rules)
