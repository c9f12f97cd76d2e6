-- Arm by arm, by the law of each.
use Rattle.std.proofs.Common.{sym, arith}
use Rattle.trace.proofs.tracing.Laws.{start-there, cycle-there}
use Rattle.report.proofs.printing.Laws.{cycle-reasons}
use Rattle.report.proofs.printing.print_call.Goals as goal

pub overflow_add-standing : goal.overflow_add-standing
overflow_add-standing c =
    let i = c.in-Ok-Some-Start in
    let h = start-there c.args.trace.now c.args.standing.now.at i.clock (sym (rw (i.field-0-is, i.field-0-0-is) at i.ensures.0)) in
    omega arith

pub overflow_add-standing-in-Ok-Some-Cycle : goal.overflow_add-standing-in-Ok-Some-Cycle
overflow_add-standing-in-Ok-Some-Cycle c =
    let i = c.in-Ok-Some-Cycle in
    let h = cycle-there c.args.trace.now c.args.standing.now.at i.clock i.inputs (sym (rw (i.field-0-is, i.field-0-0-is) at i.ensures.0)) in
    omega arith

pub cycle_lines-requires : goal.cycle_lines-requires
cycle_lines-requires c =
    let o = c.cycle-cycled in
    cycle-reasons c.args.chart.now c.args.standing.now.run c.in-Ok-Some-Cycle.clock c.in-Ok-Some-Cycle.inputs 32 _ o.ensures.answer
