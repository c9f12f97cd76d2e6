-- Each word with its count, and the line end.
use mathlib.Core.List.{◌++◌}
use native.Mathlib.Omega.{arith}
use Rattle.lines.specs.Lines.{text, decimal}
use Rattle.lines.proofs.Laws.{named-short, no_line, line_on}
use Rattle.report.specs.Wording.{tally_line}
use Rattle.report.proofs.wording.tally_line.Goals as goal

pub returns : goal.returns
unfolding tally_line
returns c =
    let a = c.args in
    let l = line_on (no_line a.line.now) 27 (text "passed " ++ decimal a.tally.passed) c.put_named-a.ensures (named-short (text "passed ") a.tally.passed) (omega arith) in
    let m = line_on l 28 (text " failed " ++ decimal a.tally.failed) c.put_named-b.ensures (named-short (text " failed ") a.tally.failed) (omega arith) in
    let n = line_on m 28 (text " notrun " ++ decimal a.tally.notrun) c.put_named-c.ensures (named-short (text " notrun ") a.tally.notrun) (omega arith) in
    let q = line_on n 1 (text "\n") c.put.ensures (omega arith) (omega arith) in
    (q.put, omega (arith, q.within))
