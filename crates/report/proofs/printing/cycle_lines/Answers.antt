-- The line, and where the cycle took nothing the reasons behind it.
use Rattle.std.proofs.Common.{Result, Ok, ap, arith}
use borrow.Author.Tests.{eq-eqb}
use Rattle.refusals.specs.declared.Refusal.{Refusal}
use Rattle.cycle.specs.declared.cycling.Cycle.{Cycle}
use Rattle.cycle.specs.Answer.{cycled_as}
use Rattle.report.proofs.printing.Laws.{second-there}
use Rattle.report.proofs.printing.cycle_lines.Goals as goal

pub returns-then-cycle-eq0 : goal.returns-then-cycle-eq0
returns-then-cycle-eq0 c =
    let a = c.args in
    let q = c.reasons_line in
    let l = c.accepted_line-length in
    let k = c.requires.0 (ap (λ (r : Result Cycle Refusal). (cycled_as r a.run.now).code) c.in-Ok.is) in
    rw c.in-Ok.is
    (second-there a.line.now l.new.line a.number a.transitions (cycled_as (Ok c.in-Ok.cycle) a.run.now) l.result (omega arith) l.ensures.0 l.ensures.1 q.new.line q.result
    (eq-eqb _ _ c.if-cycle-eq0.true) k q.ensures)
