use Rattle.std.proofs.Common.{min, get_or, pos}
use Rattle.passes.specs.Rests.{rests}
use Rattle.passes.proofs.outputs.Laws.{Front, from}
use Rattle.passes.proofs.outputs.drive.Given as goal

abbrev pub invariant-loop-a : goal.invariant-loop-a
invariant-loop-a l =
    let c = l.chart in
    Front 32 (λ o. from (min c.actions 32) (rests 32 c.output) c.value l.activity l.a (get_or l.initial.out o (pos 0)) o) 32 l.out l.initial.out
