-- By membership.
use Rattle.std.proofs.Common.{◌%◌, sym, ◌∙◌, arith}
use Rattle.acting.proofs.Laws.{count-at}
use Rattle.acting.proofs.count_of.Goals as goal

pub returns-then-is_in_mod : goal.returns-then-is_in_mod
returns-then-is_in_mod c = rw (sym c.is_in_mod.ensures ∙ c.if-is_in_mod.true) (sym (count-at c.args.counters.now (c.args.step % 64) (omega arith)))
