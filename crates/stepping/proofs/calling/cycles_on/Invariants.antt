use Rattle.std.proofs.Common.{◌≡◌, length}
use Rattle.cycle.specs.Cycling.{ready_code}
use Rattle.cycle.specs.Calling.{singly}
use Rattle.cycle.proofs.calling.Laws.{made_of}
use Rattle.stepping.proofs.calling.cycles_on.Given as goal

-- the calls made so far, all accepted; the chart and the run stay ready for the next
abbrev pub invariant-loop-k : goal.invariant-loop-k
invariant-loop-k l = record {
  made : made_of 0 l.k l.taken l.run l.activities l.outputs ≡ singly l.chart l.initial.run l.clocks l.inputs l.initial.activities l.initial.outputs l.k;
  ready : ready_code l.chart l.run (length l.outputs) ≡ 0;
}
