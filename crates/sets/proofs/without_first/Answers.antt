-- By members.
use borrow.Author.Rules.{rules}
use Rattle.sets.proofs.Least.{and-remove, remove-zero}
use Rattle.sets.proofs.without_first.Goals as goal

pub returns-then-s-eq0 : goal.returns-then-s-eq0
returns-then-s-eq0 c = rw c.if-s-eq0.true remove-zero

pub returns : goal.returns
returns c = and-remove c.args.s (search rules) c.if-s-eq0.false
