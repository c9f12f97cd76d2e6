use Rattle.std.proofs.Common.{◌-◌, length}
use lib.ListN.{take, drop, length-drop}
use lib.Seq.{length-take-le}
use native.Mathlib.Omega.{arith}
use Rattle.report.specs.Answer.{printed_as}
use Rattle.report.proofs.printing.Laws.{moves}
use Rattle.bench_run.proofs.print_run.Goals as goal

-- the part that is lent goes to the end of the buffer, and has room for a line
pub loop-standing-smaller : goal.loop-standing-smaller
loop-standing-smaller g c =
    let out = c.loop-standing.out in
    let u = c.written-used.result in
    let h = length-drop u out in
    let e = length-take-le (length out - u) (drop u out) (omega arith) in
    moves (length (take (length out - u) (drop u out))) c.args.code c.args.chart.now c.args.trace.now c.loop-standing.standing (printed_as c.print_next-used.result c.print_next-used.new.standing) (omega (arith, e, c.if-out-used-lt-LINE.false)) c.print_next-used.ensures.0 c.loop-standing-test.true
