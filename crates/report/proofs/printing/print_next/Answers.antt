-- Branch by branch, by the law of each: the first 129 bytes are printed into, and the bytes behind them stay.
use Rattle.std.proofs.Common.{◌++◌, true, refl, arith}
use lib.ListN.{take, drop, take-append-drop}
use lib.Seq.{length-take-le}
use Rattle.lines.specs.Lines.{chart_line}
use Rattle.lines.proofs.Laws.{chart-short, no_line, line_on}
use Rattle.report.specs.Answer.{printed_as}
use Rattle.report.proofs.printing.Laws.{is-done, chart-prints, call-prints}
use Rattle.report.proofs.printing.print_next.Goals as goal

pub returns-then-standing : goal.returns-then-standing
returns-then-standing c =
    let a = c.args in
    let st = a.standing.now in
    let h = c.in-Some.ensures.cases in
    let r = is-done a.code a.chart.now a.trace.now st a.line.now (c.in-Some.front.now ++ drop 129 a.line.now) (printed_as 0 st) h.enough c.if-standing.true (rw h.same (take-append-drop 129 a.line.now)) refl in
    (r.answer, r.content, r.within)

pub returns-then-code-ne0 : goal.returns-then-code-ne0
returns-then-code-ne0 c =
    let a = c.args in
    let st = a.standing.now in
    let n = c.chart_line in
    let h = c.in-Some.ensures.cases in
    let l = line_on (no_line (take 129 a.line.now)) 35 (chart_line a.code) (rw h.same at n.ensures) (chart-short a.code) (omega (arith, length-take-le 129 a.line.now h.enough)) in
    let r = chart-prints a.code a.chart.now a.trace.now st a.line.now (n.new.line ++ drop 129 a.line.now) (printed_as n.result (record st { done = true })) n.result n.new.line h.enough refl c.if-standing.false c.if-code-ne0.true l.put (omega (arith, l.within)) refl in
    (r.answer, r.content, r.within)

pub returns : goal.returns
returns c =
    let a = c.args in
    let p = c.print_call in
    let h = c.in-Some.ensures.cases in
    let r = call-prints a.code a.chart.now a.trace.now a.standing.now a.line.now (p.new.line ++ drop 129 a.line.now) (printed_as p.result p.new.standing) p.new.line h.enough refl c.if-standing.false c.if-code-ne0.false (rw h.same at p.ensures) in
    (r.answer, r.content, r.within)
