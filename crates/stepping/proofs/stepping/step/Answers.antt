-- The parts of a cycle by their statements, with the counters and the timers where they lie.
use Rattle.std.proofs.Common.{length, ◌∙◌}
use borrow.Author.Tests.{le-leb}
use Rattle.run.specs.Apart.{counts_of, times_of}
use Rattle.cycle.specs.Bounds.{bounded}
use Rattle.cycle.proofs.cycling.Laws.{cycled-as, moved_as}
use Rattle.cycle.proofs.stepping.Laws.{counts-were, counts-now, counters-now, times-were, timers-now, acted-now}
use Rattle.stepping.proofs.stepping.step.Goals as goal

pub returns : goal.returns
returns c =
    let a = c.args in
    let chart = a.chart.now in
    let run = a.run.now in
    let st = c.steps_of-moved.result in
    let x = c.settle-acts.result in
    let counters = c.grow.new.table in
    let timers = c.grow-2.new.table in
    let now = c.clear.new.table in
    moved_as (bounded chart) run a.clock a.inputs _ _ a.outputs.now _
    (cycled-as (bounded chart) run a.clock a.inputs _ _ (counts_of counters) (times_of timers) _ c.choose_by-choice.result st c.marks_of-marks.result x _ _ _ _
    c.elapsed-e.ensures c.step_time-standing.ensures
    (counts-were run.counters counters run.active _ c.requires.counters c.grow.ensures)
    (times-were run.timers timers run.latched _ c.requires.timers c.grow-2.ensures)
    c.signals_of-signals.ensures c.choose_by-choice.ensures c.steps_of-moved.ensures c.marks_of-marks.ensures
    (c.settle-acts.ensures.acts ∙ acted-now chart (counts_of counters) (counts_of now) (times_of timers) st run.stored run.latched
    (counts-now run.counters counters run.active _ c.requires.counters c.grow.ensures now st.kept _ c.without.ensures c.clear.ensures))
    (counters-now run.counters counters run.active _ c.requires.counters c.grow.ensures now st.kept _ c.without.ensures c.clear.ensures)
    (timers-now run.timers timers run.latched _ c.requires.timers c.grow-2.ensures c.clear-2.new.table x.latched _ c.without-freed.ensures c.clear-2.ensures)
    c.joined-run.ensures c.joined-run-2.ensures)
    (rw (le-leb 32 (length a.outputs.now) c.requires.room) at c.settle-acts.ensures.writes)
