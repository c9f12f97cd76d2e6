-- The machine's count of zeros is the least member.
use native.Mathlib.Nat.{lt_of_le_of_lt}
use lib.Count.{trailing_le}
use lib.Dec.{lit<}
use Prim.{tt}
use Rattle.sets.proofs.Least.{trailing-first}
use Rattle.sets.proofs.first.Goals as goal

pub overflow_cast-result : goal.overflow_cast-result
overflow_cast-result c = record { fits = lt_of_le_of_lt (trailing_le 64 c.args.s) (lit< tt) }

pub returns : goal.returns
returns c = trailing-first c.args.s
