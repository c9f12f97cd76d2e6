-- By members; beyond 63 nothing is put in.
use Rattle.sets.proofs.Members.{or-shl-insert, insert-beyond}
use borrow.Author.Rules.{rules}
use Rattle.sets.proofs.with.Goals as goal

pub returns-then-k-lt64 : goal.returns-then-k-lt64
returns-then-k-lt64 c = or-shl-insert c.args.s c.args.k (search rules) (search rules)

pub returns : goal.returns
returns c = insert-beyond c.args.s c.args.k (search rules) (search rules)
