-- `seen` has the actions with a timed block so far, and `twice` whether one had two; sixteen blocks of which none is timed change neither.
use Prim.Native.Nat.{◌+◌, ◌*◌, min}
use mathlib.Core.Path.{◌≡◌, ◌∙◌}
use native.Mathlib.Omega.{arith}
use lib.ListN.{length}
use Rattle.chart.specs.Held.{timed_twice}
use Rattle.chart.proofs.held.Laws.{twice-within}
use Rattle.chart.proofs.held.Timed.{none_seen, pass-sixteen}
use Rattle.chart.proofs.chart.Chart.timed_twice.Goals.{then-some_timed, else-some_timed}
use Rattle.chart.proofs.chart.Chart.timed_twice.Goals as goal

pub loop-sixteen-init : goal.loop-sixteen-init
loop-sixteen-init c = let none : min (16 * 0) c.min-n.result ≡ 0 = omega arith in rw none (none_seen _ _)

pub loop-sixteen-preserved : goal.loop-sixteen-preserved
loop-sixteen-preserved c =
    let l = c.loop-sixteen in
    let n = c.min-n.result in
    elim c.if-some_timed.branch [
      | then-some_timed w ↦
          let end : 16 * l.sixteen + w.min.result ≡ min (16 * (l.sixteen + 1)) n = omega (arith, w.min.ensures) in
          rw (w.seen-is, w.twice-is, ← end) w.see_timed-twice.ensures
      | else-some_timed w ↦
          let next : 16 * l.sixteen + 16 ≡ 16 * (l.sixteen + 1) = omega arith in
          rw (w.seen-is, w.twice-is, ← next) (pass-sixteen (16 * l.sixteen) n l.invariant c.some_timed.ensures w.if-some_timed.false)
    ]

pub returns : goal.returns
unfolding timed_twice
returns c =
    let l = c.loop-sixteen in
    let all : min (16 * l.sixteen) c.min-n.result ≡ min c.args.self.now.blocks (length c.args.self.now.qualifier) = omega (arith, c.min-n.ensures, c.div_ceil-sixteen-end.ensures) in
    (rw all at l.invariant).again ∙ twice-within c.args.self.now.blocks c.args.self.now.blockaction c.args.self.now.qualifier
