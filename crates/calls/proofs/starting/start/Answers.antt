-- The tests are passed; then the parts by their statements.
use Rattle.std.proofs.Common.{◌≤◌, leb, length, sym, ◌∙◌, arith}
use borrow.Author.Tests.{le-leb, leb-true}
use Rattle.fields.proofs.Exits.{passed-first}
use Rattle.chart.proofs.held.Sound.{Sound, sound, fits}
use Rattle.cycle.proofs.cycling.Laws.{accepted-by, started-as}
use Rattle.cycle.proofs.bounds.Sound.{acted-bounded, outputs-bounded}
use Rattle.cycle.proofs.stepping.Laws.{blank-acted, blank-counters, blank-timers}
use Rattle.calls.proofs.starting.start.Goals.{In_ok-check}
use Rattle.calls.proofs.starting.start.Goals as goal

chart-sound : (c : In_ok-check) → Sound c.args.chart.now
chart-sound c = sound c.args.chart.now (sym c.in_ok-check.ensures)

pub returns-clause-answer : goal.returns-clause-answer
returns-clause-answer c =
    let a = c.args in
    let sure = chart-sound (goal.at.returns-clause-answer c).In_ok-check in
    let x = c.settle-acts in
    rw c.zero-run.ensures
    (accepted-by _ _ _ _ (c.in_ok-check.ensures ∙ passed-first _ c.in_ok-unless.ensures)
    (started-as a.chart.now a.clock _ x.result _ _ c.initial_set-first.ensures
    ((rw c.zero-run.ensures at x.ensures.acts) ∙ blank-acted a.chart.now _ ∙ acted-bounded a.chart.now sure _ _ _ 0 0) blank-counters (blank-timers x.result.latched)))

pub returns-clause-written : goal.returns-clause-written
returns-clause-written c =
    let a = c.args in
    let sure = chart-sound (goal.at.returns-clause-written c).In_ok-check in
    let room : 32 ≤ length a.outputs.now = leb-true 32 _ (fits (leb 32 (length a.outputs.now)) 15 (λ z. omega arith) (sym c.in_ok-unless.ensures)) in
    rw (le-leb 32 (length a.outputs.now) room, outputs-bounded a.chart.now sure c.settle-acts.result.activity) at c.settle-acts.ensures.writes
