-- Where nothing was left none is marked; else the cases passed that are good, and that are bad.
use Rattle.std.proofs.Common.{◌∙◌, sym, arith}
use Rattle.passes.proofs.rests.Laws.{rest_at}
use Rattle.passes.proofs.moving.Laws.{none_left, none-marked, one-marked, one-passed, all-marked}
use Rattle.passes.proofs.moving.marks_of.Goals.{then-is_in_mod, else-is_in_mod}
use Rattle.passes.proofs.moving.marks_of.Goals as goal

pub returns-then-left-eq0 : goal.returns-then-left-eq0
returns-then-left-eq0 c = none_left _ _ _ _ _ _ c.if-left-eq0.true

pub loop-i-init : goal.loop-i-init
loop-i-init c = none-marked _ _ _ _ _

pub loop-i-preserved : goal.loop-i-preserved
loop-i-preserved c =
    let l = c.loop-i in
    let h = c.args.chart.now in
    let e = sym (rest_at 64 h.casestep l.i) in
    let o = rw c.case-case.ensures at c.is_in_mod.ensures in
    elim c.if-is_in_mod.branch [
      | then-is_in_mod w ↦ one-marked _ _ _ _ _ _ _ _ _ _ _ _ (omega arith) l.invariant e o _ _ w.if-is_in_mod.true
          (sym (rest_at 64 h.signal l.i)) (rw c.case-case.ensures at w.as_expected-fine.ensures)
          (w.good-is ∙ w.with_if_mod-good.ensures) (w.bad-is ∙ w.with_if_mod-bad.ensures)
      | else-is_in_mod w ↦ one-passed _ _ _ _ _ _ _ _ _ _ _ _ (omega arith) l.invariant e o w.if-is_in_mod.false w.good-is w.bad-is
    ]

pub returns : goal.returns
returns c = all-marked _ _ _ _ _ _ _ _ _ c.loop-i.invariant (omega arith)
