-- The bytes are those of the line.
use native.Mathlib.Omega.{arith}
use Rattle.lines.proofs.Laws.{no_line, line_on}
use Rattle.report.specs.Wording.{trace_line}
use Rattle.report.proofs.wording.trace_line.Goals as goal

pub returns : goal.returns
unfolding trace_line
returns c =
    let l = line_on (no_line c.args.line.now) 17 trace_line c.put.ensures (omega arith) (omega arith) in
    (l.put, omega (arith, l.within))
