-- By where the line stands.
use Rattle.std.proofs.Common.{arith}
use Rattle.sets.proofs.Bytes.{put-none}
use Rattle.page.specs.Answer.{weighed_as}
use Rattle.page.proofs.page.Laws.{put_as, line-transition, line-closing, line-pair, line-none}
use Rattle.page.proofs.page.line_at.Goals as goal

pub returns-then-k-n : goal.returns-then-k-n
returns-then-k-n c =
    let a = c.args in
    let h = a.chart.now in
    put_as a.line.now (line-transition h.transitions h.sources h.targets a.initial a.weights.now (weighed_as a.weighed) a.k c.if-k-n.true)
    (rw (← c.entry-sources.ensures, ← c.entry-targets.ensures) c.transition_line.ensures)

pub returns-then-k-n-2 : goal.returns-then-k-n-2
returns-then-k-n-2 c =
    let a = c.args in
    let h = a.chart.now in
    put_as a.line.now (line-closing h.transitions h.sources h.targets a.initial a.weights.now (weighed_as a.weighed) a.k c.if-k-n-2.true) c.closing_line.ensures

pub returns-then-weighed-eq0 : goal.returns-then-weighed-eq0
returns-then-weighed-eq0 c =
    let a = c.args in
    let h = a.chart.now in
    put_as a.line.now (line-pair h.transitions h.sources h.targets a.initial a.weights.now (weighed_as a.weighed) a.k c.if-k-n.false c.if-k-n-2.false c.if-weighed-eq0.true) c.pair_line.ensures

pub returns : goal.returns
returns c =
    let a = c.args in
    let h = a.chart.now in
    put_as a.line.now (line-none h.transitions h.sources h.targets a.initial a.weights.now (weighed_as a.weighed) a.k c.if-k-n.false c.if-k-n-2.false c.if-weighed-eq0.false) (put-none a.line.now 0, omega arith)
