-- In the front of the buffer, and so in the buffer.
use Rattle.std.proofs.Common.{sym, ◌∙◌, arith}
use Rattle.sets.proofs.Bytes.{put-none}
use Rattle.page.specs.Answer.{heard_as}
use Rattle.page.proofs.page.Laws.{front-puts, put_as, page-shown, page-refused, page-ended}
use Rattle.page.proofs.page.page_line.Goals as goal

pub returns-then-not-is_refused : goal.returns-then-not-is_refused
returns-then-not-is_refused c =
    let a = c.args in
    let h = a.chart.now in
    let f = c.in-Some.ensures.cases in
    front-puts a.line.now _ f.same f.enough
    (put_as c.in-Some.front.now (page-shown (heard_as a.heard.now) h.transitions h.sources h.targets a.initial a.weights.now a.k (sym c.is_refused.ensures ∙ c.if-not-is_refused.true)) c.line_at.ensures)

pub returns-then-k-eq0 : goal.returns-then-k-eq0
returns-then-k-eq0 c =
    let a = c.args in
    let h = a.chart.now in
    let f = c.in-Some.ensures.cases in
    front-puts a.line.now _ f.same f.enough
    (put_as c.in-Some.front.now (page-refused (heard_as a.heard.now) h.transitions h.sources h.targets a.initial a.weights.now a.k (sym c.is_refused.ensures ∙ c.if-not-is_refused.false) c.if-k-eq0.true) c.refusal_line.ensures)

pub returns : goal.returns
returns c =
    let a = c.args in
    let h = a.chart.now in
    let f = c.in-Some.ensures.cases in
    front-puts a.line.now _ f.same f.enough
    (put_as c.in-Some.front.now (page-ended (heard_as a.heard.now) h.transitions h.sources h.targets a.initial a.weights.now a.k (sym c.is_refused.ensures ∙ c.if-not-is_refused.false) c.if-k-eq0.false) (put-none c.in-Some.front.now 0, omega arith))
