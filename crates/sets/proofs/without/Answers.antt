-- By members.
use borrow.Author.Rules.{rules}
use Rattle.sets.proofs.Members.{and-not-minus}
use Rattle.sets.proofs.without.Goals as goal

pub returns : goal.returns
returns c = and-not-minus c.args.a c.args.b (search rules) (search rules)
