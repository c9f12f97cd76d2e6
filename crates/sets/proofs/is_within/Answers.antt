-- By members.
use borrow.Author.Rules.{rules}
use Rattle.sets.proofs.Members.{and-within}
use Rattle.sets.proofs.is_within.Goals as goal

pub returns : goal.returns
returns c = and-within c.args.a c.args.b (search rules) (search rules)
