-- By members.
use borrow.Author.Rules.{rules}
use Rattle.sets.proofs.Members.{or-union}
use Rattle.sets.proofs.joined.Goals as goal

pub returns : goal.returns
returns c = or-union c.args.a c.args.b (search rules) (search rules)
