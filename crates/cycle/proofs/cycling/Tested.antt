-- The cycle of a chart and a run that passed the tests which its clock has no part in; and they pass them again after it.
use Prim.Native.Nat.{ℕ, ◌≤◌, ◌<◌}
use mathlib.Core.List.{List, ◌++◌}
use mathlib.Core.Bool.{Bool, true, false, cond}
use mathlib.Core.Path.{◌≡◌, refl, ap, ◌∙◌}
use native.Mathlib.Omega.{arith}
use lib.IntN.{ℤ}
use lib.ListN.{length, drop, length-append, length-drop}
use lib.Dec.{eqb}
use Rattle.chart.specs.declared.chart.Chart.{Chart}
use Rattle.chart.proofs.held.Sound.{sound}
use Rattle.run.specs.declared.run.Run.{Run}
use Rattle.passes.specs.Outputs.{outputs_of}
use Rattle.cycle.specs.Bounds.{bounded}
use Rattle.passes.specs.Time.{elapsed}
use Rattle.cycle.specs.Cycling.{refused, accepted, ready_code, cycle_code, cycled, cycle_of, cycle_on, outputs_after, why_in}
use Rattle.cycle.specs.Stepping.{Moved, moved_on}
use Rattle.cycle.specs.Answer.{Cycled}
use Rattle.passes.proofs.outputs.Laws.{outputs-length}
use Rattle.cycle.proofs.bounds.Sound.{cycled-bounded, after-bounded}
use Rattle.cycle.proofs.cycling.Kept.{cycle-belongs}
use Rattle.cycle.proofs.cycling.Laws.{goes_on, too-late, in-time, accepted-by, turned-away, together, passed, is-ready}

-- in time it is paragraphs 1 to 6 of what a cycle takes of the chart, and the reasons with them
pub moves-on : (c : Chart) (r : Run) (clock inputs : ℕ) (out : List ℤ) (taken : ℕ) (run : Run) (after : List ℤ) → ready_code c r (length out) ≡ 0 → elapsed r.clock clock ≤ 60000
    → ◌≡◌ {A = Moved} (taken, run, after) (moved_on (bounded c) r clock inputs out) → ◌≡◌ {A = Cycled × List ℤ} (accepted taken (why_in c r clock inputs) run, after) (cycle_on c r clock inputs out)
moves-on c r clock inputs out taken run after e l h =
    let s = sound c (passed c r (length out) e).chart in
    let o = cycled (bounded c) r clock inputs in
    let why = why_in c r clock inputs in
    ap {B = Cycled × List ℤ} (λ (p : Moved). (accepted p.0 why p.1, p.2)) h
    ∙ together c (cycle_of c r clock inputs (length out)) (accepted o.taken why o.run) out (outputs_after (bounded c) o out)
    (accepted-by (cycle_code c r clock (length out)) (cycled c r clock inputs) _ _ (in-time _ l ∙ goes_on _ _ e) (ap (λ (x : Cycled). accepted x.taken why x.run) (cycled-bounded c s r clock inputs))) (after-bounded c s o out)

-- too late: all stays as it is
pub comes-late : (c : Chart) (r : Run) (clock inputs : ℕ) (out : List ℤ) → ready_code c r (length out) ≡ 0 → 60000 < elapsed r.clock clock
    → ◌≡◌ {A = Cycled × List ℤ} (refused 11 r, out) (cycle_on c r clock inputs out)
comes-late c r clock inputs out e l =
    turned-away c (cycle_code c r clock (length out)) 11 (cycled c r clock inputs) (refused 11 r) r out (too-late _ l ∙ goes_on _ _ e) (λ z. omega arith) refl

pub ready-kept : (c : Chart) (r : Run) (clock inputs lent : ℕ) → ready_code c r lent ≡ 0 → (cycle_of c r clock inputs lent).code ≡ 0
    → ready_code c (cycle_of c r clock inputs lent).run lent ≡ 0
ready-kept c r clock inputs lent e h =
    let p = passed c r lent e in
    is-ready c (cycle_of c r clock inputs lent).run lent (record { enough = p.enough; chart = p.chart; run = cycle-belongs c r clock inputs lent h })

-- enough lent outputs stay as many
pub outputs-long : (c : Chart) (o : Cycled) (out : List ℤ) → 32 ≤ length out → length (outputs_after c o out) ≡ length out
outputs-long c o out h = go (eqb o.code 0)
  where
    written : List ℤ
    written = outputs_of c.actions c.output c.value o.run.activity

    go : (b : Bool) → length (cond b (written ++ drop 32 out) out) ≡ length out
    go true = omega (arith, length-append written (drop 32 out), outputs-length c.actions c.output c.value o.run.activity, length-drop 32 out)
    go false = refl
