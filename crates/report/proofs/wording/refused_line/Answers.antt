-- The number, the word with the refusal's, and the line end.
use Rattle.std.proofs.Common.{◌++◌, arith}
use Rattle.lines.specs.Lines.{text, decimal}
use Rattle.lines.proofs.Laws.{decimal-short, named-short, no_line, line_on}
use Rattle.report.specs.Wording.{refused_line}
use Rattle.report.proofs.wording.refused_line.Goals as goal

pub returns : goal.returns
unfolding refused_line
returns c =
    let a = c.args in
    let code = c.number-code.result in
    let l = line_on (no_line a.line.now) 20 (decimal a.number) c.put_decimal-a.ensures (decimal-short 20 a.number) (omega arith) in
    let m = line_on l 29 (text " refused " ++ decimal code) c.put_named-b.ensures (named-short (text " refused ") code) (omega arith) in
    let q = line_on m 1 (text "\n") c.put.ensures (omega arith) (omega arith) in
    rw (← c.number-code.ensures) (q.put, omega (arith, q.within))
