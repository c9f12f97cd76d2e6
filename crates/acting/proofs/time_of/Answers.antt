-- A timer as a number.
use Rattle.std.proofs.Common.{◌%◌, sym, arith}
use Rattle.acting.proofs.Laws.{time-at}
use Rattle.acting.proofs.time_of.Goals as goal

pub returns : goal.returns
returns c = sym (time-at c.args.timers.now (c.args.action % 32) (omega arith))
