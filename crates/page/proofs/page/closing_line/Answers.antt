-- By the weighing's number.
use Rattle.std.proofs.Common.{arith}
use borrow.Author.Tests.{ne_eqb}
use Rattle.lines.specs.Lines.{text, named_line}
use Rattle.page.specs.Page.{initial_line, closing_line}
use Rattle.page.proofs.page.Laws.{named-line-short, puts-line, side-ends}
use Rattle.page.proofs.page.closing_line.Goals as goal

pub returns-then-weighed-eq0 : goal.returns-then-weighed-eq0
unfolding closing_line initial_line
returns-then-weighed-eq0 c =
    let a = c.args in
    let p = c.side_line.ensures in
    (rw c.if-weighed-eq0.true p, side-ends a.line.now (text "initial") a.initial a.weights.now p (omega arith))

pub returns : goal.returns
unfolding closing_line
returns c =
    let a = c.args in
    let name = text "refused weights 14 transition " in
    rw (ne_eqb a.weighed.code 0 c.if-weighed-eq0.false)
    (puts-line 51 a.line.now (named_line name a.weighed.transition) c.put_line.ensures (named-line-short name a.weighed.transition) (omega arith) (omega arith))
