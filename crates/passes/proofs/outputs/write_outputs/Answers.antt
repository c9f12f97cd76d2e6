-- Wiped, then driven.
use Rattle.std.proofs.Common.{◌≡◌, ℕ, List, ◌++◌, min, drop, replicate, ℤ, pos, ap, ◌∙◌, length, length-take-le, le-leb}
use borrow.Author.Tests.{lt-leb}
use Rattle.passes.specs.Rests.{rests}
use Rattle.passes.specs.Outputs.{driven}
use Rattle.passes.proofs.outputs.Laws.{driven-wiped, zeros-wiped}
use Rattle.passes.proofs.outputs.write_outputs.Goals as goal

pub returns-then-out-lt32 : goal.returns-then-out-lt32
returns-then-out-lt32 c = rw (lt-leb 32 _ c.if-out-lt32.true)

pub returns : goal.returns
returns c =
    let h = c.args.chart.now in
    let out = c.args.out.now in
    let n = min h.actions 32 in
    let output = rests 32 h.output in
    let f : c.fill.new.self ≡ replicate 32 (pos 0) = c.fill.ensures.after (λ y e. e) ∙ ap (λ (n : ℕ). replicate n (pos 0)) (length-take-le 32 out c.if-out-lt32.false) in
    rw (le-leb 32 (length out) c.if-out-lt32.false)
    (c.drive.ensures
    ∙ ap (λ (s : List ℤ). driven n output h.value c.args.activity s) (ap (λ (t : List ℤ). t ++ drop 32 out) f ∙ zeros-wiped out)
    ∙ driven-wiped n output h.value c.args.activity out)
