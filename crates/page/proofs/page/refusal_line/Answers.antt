-- The refusals in their order.
use Rattle.std.proofs.Common.{ap, ◌∙◌, sym, arith}
use Rattle.lines.specs.Lines.{text, chart_line}
use Rattle.lines.proofs.Laws.{chart-short}
use Rattle.page.specs.Answer.{line_number, heard_as}
use Rattle.page.specs.Page.{too_long, fault_line, wrong_count}
use Rattle.page.proofs.page.Laws.{named-line-short, puts-line, put_as, refused-chart, refused-length, refused-fault, refused-count}
use Rattle.page.proofs.page.refusal_line.Goals as goal

pub returns-then-heard-ne0 : goal.returns-then-heard-ne0
returns-then-heard-ne0 c =
    let a = c.args in
    let code = a.heard.now.code in
    put_as a.line.now (refused-chart (heard_as a.heard.now) c.if-heard-ne0.true)
    (puts-line 35 a.line.now (chart_line code) c.chart_line.ensures (chart-short code) (omega arith) (omega arith))

pub returns-then-heard-ge65536 : goal.returns-then-heard-ge65536
returns-then-heard-ge65536 c =
    let a = c.args in
    put_as a.line.now (refused-length (heard_as a.heard.now) c.if-heard-ne0.false c.if-heard-ge65536.true) (puts-line 25 a.line.now too_long c.put.ensures (omega arith) (omega arith) (omega arith))

pub returns-in-Some : goal.returns-in-Some
returns-in-Some c =
    let a = c.args in
    let fault = ap line_number c.in-Some.is in
    let n = c.saturating_add-number.result in
    put_as a.line.now (ap fault_line (c.saturating_add-number.ensures ∙ sym fault) ∙ refused-fault (heard_as a.heard.now) c.if-heard-ne0.false c.if-heard-ge65536.false (λ z. omega (arith, sym fault ∙ z)))
    (puts-line 42 a.line.now (fault_line n) c.put_line.ensures (named-line-short (text "refused weights line ") n) (omega arith) (omega arith))

pub returns : goal.returns
returns c =
    let a = c.args in
    put_as a.line.now (refused-count (heard_as a.heard.now) c.if-heard-ne0.false c.if-heard-ge65536.false (ap line_number c.in_default.is)) (puts-line 19 a.line.now wrong_count c.put-2.ensures (omega arith) (omega arith) (omega arith))
