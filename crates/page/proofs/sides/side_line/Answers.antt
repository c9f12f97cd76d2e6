-- A side, and the line end.
use native.Mathlib.Omega.{arith}
use Rattle.lines.specs.Lines.{text}
use Rattle.lines.proofs.Laws.{no_line, line_on}
use Rattle.page.proofs.sides.Laws.{line-side}
use Rattle.page.proofs.sides.side_line.Goals as goal

pub returns : goal.returns
returns c =
    let a = c.args in
    let l = line-side (no_line a.line.now) a.name.now a.set a.weights.now c.put_side-end.ensures (omega (arith, c.requires)) in
    (line_on l 1 (text "\n") c.put.ensures (omega arith) (omega (arith, c.requires))).put
