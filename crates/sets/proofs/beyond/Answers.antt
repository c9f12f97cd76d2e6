-- By members; from 64 on there are none.
use Rattle.sets.proofs.Members.{shl-beyond, none-beyond}
use borrow.Author.Rules.{rules}
use Rattle.sets.proofs.beyond.Goals as goal

pub returns-then-n-lt64 : goal.returns-then-n-lt64
returns-then-n-lt64 c = shl-beyond c.args.n (search rules)

pub returns : goal.returns
returns c = none-beyond c.args.n (search rules)
