-- Beyond 63 a word has no member.
use mathlib.Core.Path.{sym}
use Rattle.sets.proofs.Members.{has-high}
use borrow.Author.Rules.{rules}
use Rattle.sets.proofs.is_in.Goals as goal

pub returns : goal.returns
returns c = sym (has-high 64 c.args.s c.args.k (search rules) (search rules))
