use Rattle.std.proofs.Common.{◌≡◌}
use Rattle.run.specs.Apart.{counts_of, times_of}
use Rattle.acting.specs.Acting.{asked as so_far}
use Rattle.passes.specs.Rests.{rests}
use Rattle.passes.proofs.asking.ask_blocks.Given as goal

abbrev pub invariant-loop-i : goal.invariant-loop-i
invariant-loop-i l =
    let c = l.chart in
    l.asked ≡ so_far l.i (rests 64 c.blockstep) (rests 32 c.blockaction) c.qualifier c.duration (counts_of l.counters) (times_of l.timers) l.steps
