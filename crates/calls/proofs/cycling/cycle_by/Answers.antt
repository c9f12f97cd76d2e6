-- One call is a cycle, with the reasons beside it.
use Rattle.std.proofs.Common.{refl}
use Rattle.cycle.proofs.calling.Laws.{one-went, one-stopped}
use Rattle.calls.proofs.cycling.cycle_by.Goals as goal

pub returns-in_err-went : goal.returns-in_err-went
returns-in_err-went c =
    let a = c.args in
    let o = one-stopped a.chart.now a.index.now a.run.now a.clock a.inputs _ _ a.outputs.now _ _ refl _ c.from_residual.result c.from_residual.ensures.1 c.in_err-went.ensures in
    record { answer = o.0; written = o.1 }

pub returns : goal.returns
returns c =
    let a = c.args in
    let o = one-went a.chart.now a.index.now a.run.now a.clock a.inputs _ _ a.outputs.now _ _ refl c.in_ok-went.went _ c.explain-reasons.ensures c.in_ok-went.ensures in
    record { answer = o.0; written = o.1 }
