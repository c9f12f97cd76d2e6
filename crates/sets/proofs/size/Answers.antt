-- The machine's count of ones is the count of the members.
use native.Mathlib.Nat.{lt_of_le_of_lt}
use lib.Count.{ones-le}
use lib.Dec.{lit<}
use Prim.{tt}
use borrow.Author.Rules.{rules}
use Prim.Native.Nat.{◌^◌, ◌<◌}
use Rattle.sets.proofs.Counts.{ones-size}
use Rattle.sets.proofs.size.Goals as goal

a_word : (c : goal.Start) → c.args.s < 2 ^ 64
a_word c = search rules

pub overflow_cast-result : goal.overflow_cast-result
overflow_cast-result c = record { fits = lt_of_le_of_lt (ones-le 64 c.args.s (a_word c)) (lit< tt) }

pub returns : goal.returns
returns c = ones-size c.args.s (a_word c)
