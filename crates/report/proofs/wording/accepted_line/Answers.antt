-- The number, the three words, and the line end.
use mathlib.Core.List.{◌++◌}
use native.Mathlib.Omega.{arith}
use Rattle.lines.specs.Lines.{text, hex, decimal}
use Rattle.lines.proofs.Laws.{decimal-short, word-short, no_line, line_on}
use Rattle.report.specs.Wording.{accepted_line}
use Rattle.report.proofs.wording.accepted_line.Goals as goal

pub returns : goal.returns
unfolding accepted_line
returns c =
    let a = c.args in
    let l = line_on (no_line a.line.now) 20 (decimal a.number) c.put_decimal-a.ensures (decimal-short 20 a.number) (omega arith) in
    let m = line_on l 17 (text " " ++ hex 16 a.active) c.put_word-b.ensures (word-short 16 a.active) (omega arith) in
    let n = line_on m 9 (text " " ++ hex 8 a.activity) c.put_word-c.ensures (word-short 8 a.activity) (omega arith) in
    let o = line_on n 17 (text " " ++ hex 16 a.taken) c.put_word-d.ensures (word-short 16 a.taken) (omega arith) in
    let q = line_on o 1 (text "\n") c.put.ensures (omega arith) (omega arith) in
    (q.put, q.within)
