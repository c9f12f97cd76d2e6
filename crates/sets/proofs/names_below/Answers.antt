-- By members; every member is below 64.
use Rattle.sets.proofs.Members.{shr_below, all-below}
use borrow.Author.Rules.{rules}
use Rattle.sets.proofs.names_below.Goals as goal

pub returns-then-n-lt64 : goal.returns-then-n-lt64
returns-then-n-lt64 c = shr_below c.args.s c.args.n (search rules)

pub returns : goal.returns
returns c = all-below c.args.s c.args.n (search rules) (search rules)
