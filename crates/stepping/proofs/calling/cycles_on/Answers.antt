-- The calls made so far, the last accepted; the chart and the run stay ready for the next.
use Rattle.std.proofs.Common.{◌≡◌, refl, sym, length, arith}
use Rattle.run.proofs.belongs.Laws.{own}
use Rattle.cycle.specs.Cycling.{refused}
use Rattle.cycle.proofs.cycling.Laws.{passed}
use Rattle.cycle.proofs.cycling.Tested.{moves-on, comes-late}
use Rattle.cycle.proofs.calling.Laws.{none-called, one-accepted, one-refused, all_made, ReadyBy, ready-by, made_by}
use Rattle.stepping.proofs.calling.cycles_on.Goals.{After-min-last}
use Rattle.stepping.proofs.calling.cycles_on.Goals as goal

-- what the tests tell that were passed
told : (c : After-min-last) → let a = c.args in ReadyBy a.chart.now a.index.now a.run.now (length a.outputs.now)
told c = ready-by _ _ _ _ (sym c.in_ok-ready.ensures.tests)

pub loop-k-init : goal.loop-k-init
loop-k-init c =
    let a = c.args in record {
      made = none-called a.chart.now a.run.now a.clocks.now a.inputs.now a.activities.now a.outputs.now;
      ready = (told c).ready;
    }

pub returns-then-elapsed-gt-MINUTE : goal.returns-then-elapsed-gt-MINUTE
returns-then-elapsed-gt-MINUTE c =
    let l = c.loop-k in
    let p = told (goal.at.returns-then-elapsed-gt-MINUTE c).After-min-last in
    let a = c.args in
    made_by a.chart.now a.index.now a.run.now a.clocks.now a.inputs.now a.activities.now a.outputs.now _ p.indexed
    (all_made a.chart.now a.run.now a.clocks.now a.inputs.now a.activities.now a.outputs.now _ c.min-last.result p.ready (rw c.min.ensures at c.min-last.ensures)
    (one-refused a.chart.now a.run.now a.clocks.now a.inputs.now a.activities.now a.outputs.now l.k l.taken l.run l.activities l.outputs l.outputs (refused 11 l.run) l.invariant.made
    (comes-late a.chart.now l.run _ _ l.outputs l.invariant.ready (rw c.elapsed.ensures at c.if-elapsed-gt-MINUTE.true)) (λ z. omega arith) c.min-last.result c.loop-k-test.true))

pub step-taken-requires : goal.step-taken-requires
step-taken-requires c =
    let l = c.loop-k in
    let p = passed c.args.chart.now l.run (length l.outputs) l.invariant.ready in
    let o = own c.args.chart.now l.run p.run in
    record { room = p.enough; counters = o.counters; timers = o.timers; consults = c.in_ok-ready.ensures.consults refl }

pub loop-k-preserved : goal.loop-k-preserved
loop-k-preserved c =
    let l = c.loop-k in
    let a = c.args in
    let single = moves-on a.chart.now l.run _ _ l.outputs _ _ _ l.invariant.ready (rw c.elapsed.ensures at c.if-elapsed-gt-MINUTE.false) c.step-taken.ensures in
    let next = one-accepted a.chart.now a.run.now a.clocks.now a.inputs.now a.activities.now a.outputs.now l.k l.taken l.run l.activities l.outputs _ _ l.invariant.made single l.invariant.ready refl in
    record { made = next.0; ready = next.1 }

pub returns : goal.returns
returns c =
    let l = c.loop-k in
    let p = told (goal.at.returns c).After-min-last in
    let a = c.args in
    let last : l.k ≡ c.min-last.result = omega arith in
    made_by a.chart.now a.index.now a.run.now a.clocks.now a.inputs.now a.activities.now a.outputs.now _ p.indexed
    (all_made a.chart.now a.run.now a.clocks.now a.inputs.now a.activities.now a.outputs.now _ c.min-last.result p.ready (rw c.min.ensures at c.min-last.ensures) (rw last at l.invariant.made))
