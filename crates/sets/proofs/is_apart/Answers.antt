-- By members.
use borrow.Author.Rules.{rules}
use Rattle.sets.proofs.Members.{and-apart}
use Rattle.sets.proofs.is_apart.Goals as goal

pub returns : goal.returns
returns c = and-apart c.args.a c.args.b (search rules) (search rules)
