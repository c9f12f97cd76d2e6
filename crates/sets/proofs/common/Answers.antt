-- By members.
use borrow.Author.Rules.{rules}
use Rattle.sets.proofs.Members.{and-inter}
use Rattle.sets.proofs.common.Goals as goal

pub returns : goal.returns
returns c = and-inter c.args.a c.args.b (search rules) (search rules)
