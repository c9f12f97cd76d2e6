-- `among` has the timed ones of the blocks passed; what is left of it is those that were asked for.
use native.Mathlib.Nat.{le_antisymm}
use Prim.Native.Nat.{◌+◌}
use native.Mathlib.Omega.{arith}
use lib.Pow.{pow_pos}
use Rattle.chart.proofs.held.Timed.{among-start, among-turn, among-limit, among-end}
use Rattle.chart.proofs.chart.Chart.timed_among.Goals as goal

pub loop-k-init : goal.loop-k-init
loop-k-init c = among-start c.args.at c.args.self.now.qualifier

pub loop-k-preserved : goal.loop-k-preserved
loop-k-preserved c = among-turn c.args.at c.args.self.now.qualifier c.loop-k.k (omega arith) c.loop-k.invariant c.is_timed.ensures

pub nonzero_rem-result : goal.nonzero_rem-result
nonzero_rem-result c = rw (among-limit c.args.left (omega arith)) (pow_pos (c.args.left + 1))

pub returns : goal.returns
returns c = among-end c.args.at c.args.left c.args.self.now.qualifier (omega arith) (rw (le_antisymm c.loop-k.auto.k-end c.loop-k-test.false) at c.loop-k.invariant)
