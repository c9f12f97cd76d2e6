-- The digits of the reasons passed are written; then the line end.
use Rattle.std.proofs.Common.{get_or, ◌+◌, ◌≤◌, ◌∙◌, arith}
use Rattle.lines.specs.Lines.{text}
use Rattle.lines.proofs.Laws.{digit-small, puts}
use Rattle.report.proofs.wording.Laws.{digits-turn, digits-end}
use Rattle.report.proofs.wording.reasons_line.Goals as goal

pub loop-t-preserved : goal.loop-t-preserved
loop-t-preserved c =
    let l = c.loop-t in
    -- each reason is one digit
    let d : get_or c.args.reasons.now l.t 0 ≤ 7 = c.requires.2 _ (omega arith) in
    digits-turn c.args.line.now c.args.at c.args.n c.args.reasons.now c.requires.0 l.t c.digit.result l.line l.invariant (omega arith)
    (c.digit.ensures ∙ digit-small (get_or c.args.reasons.now l.t 0) (omega arith))

pub returns : goal.returns
returns c =
    let p = c.put in
    let l = c.loop-t in
    digits-end c.args.line.now c.args.at c.args.n c.args.reasons.now c.requires.0 l.t p.result l.line p.new.line l.invariant (omega arith)
    (puts 1 l.line (c.args.at + c.args.n) (text "\n") p.ensures (omega (arith, l.auto.line)))
