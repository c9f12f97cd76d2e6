-- The head as it is read, and the answer that it makes.
use Prim.Native.Nat.{◌+◌}
use mathlib.Core.Path.{◌≡◌, sym, ◌∙◌}
use native.Mathlib.Omega.{arith}
use Rattle.reader.proofs.numbers.Laws.{whole}
use Rattle.trace.specs.Tracing.{record_fits}
use Rattle.trace.proofs.tracing.Laws.{head_read, over, refuses, starts, cycles, room, first_body, later-body}
use Rattle.trace.proofs.tracing.call_at.Goals.{After-head_fits}
use Rattle.trace.proofs.tracing.call_at.Goals as goal

fits : (c : After-head_fits) → c.head_fits.result ≡ record_fits c.args.trace.now c.args.at
fits c =
    head_read c.args.trace.now c.args.at _ _ _ c.u16_from-kind.ensures c.u16_from-length.ensures c.head_fits.ensures

pub returns-then-trace-at : goal.returns-then-trace-at
returns-then-trace-at c = let a = c.args in over a.trace.now a.at (omega arith)

pub returns-then-not-head_fits : goal.returns-then-not-head_fits
returns-then-not-head_fits c =
    let a = c.args in
    refuses a.trace.now a.at (omega arith) (sym (fits (goal.at.returns-then-not-head_fits c).After-head_fits) ∙ c.if-not-head_fits.true)

pub returns-then-at-eq0 : goal.returns-then-at-eq0
returns-then-at-eq0 c =
    let a = c.args in
    let e = sym (fits (goal.at.returns-then-at-eq0 c).After-head_fits) ∙ c.if-not-head_fits.false in
    let r = room a.trace.now a.at e in
    let b = first_body a.at c.if-at-eq0.true in
    starts a.trace.now a.at _ (omega arith) e c.if-at-eq0.true (c.u32_from-clock.ensures ∙ whole 4 a.trace.now (a.at + 4) (omega arith))

pub returns : goal.returns
returns c =
    let a = c.args in
    let e = sym (fits (goal.at.returns c).After-head_fits) ∙ c.if-not-head_fits.false in
    let r = room a.trace.now a.at e in
    let b = later-body a.at c.if-at-eq0.false in
    cycles a.trace.now a.at _ _ (omega arith) e c.if-at-eq0.false
    (c.u32_from-clock.ensures ∙ whole 4 a.trace.now (a.at + 4) (omega arith))
    (c.u32_from-inputs.ensures ∙ whole 4 a.trace.now (a.at + 8) (omega arith))
