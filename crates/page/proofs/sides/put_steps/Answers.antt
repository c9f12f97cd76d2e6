-- Where the steps passed end, within the line as it was.
use Rattle.std.proofs.Common.{ℕ, ◌+◌, ◌*◌, ◌≤◌, length, ◌≡◌, subst, arith}
use Rattle.sets.specs.Bytes.{Put}
use Rattle.sets.specs.Loops.{turns}
use Rattle.sets.proofs.Bytes.{put-none, put-kept}
use Rattle.page.specs.Sides.{joined, step_at, steps_in}
use Rattle.page.proofs.sides.Laws.{passed-short, step-next}
use Rattle.page.proofs.sides.put_steps.Goals.{At-loop-k}
use Rattle.page.proofs.sides.put_steps.Goals as goal

room : (c : At-loop-k) → (c.loop-k.end ≤ c.args.at + 3 * c.loop-k.k) × (length c.loop-k.line ≡ length c.args.line.now)
room c =
    let h = passed-short c.args.set c.loop-k.k (omega arith) in
    let p = c.loop-k.invariant in
    (omega (arith, h, p.1), put-kept c.args.line.now c.args.at (joined (step_at c.args.set) c.loop-k.k) p (omega (arith, h, p.1, c.requires)))

pub loop-k-init : goal.loop-k-init
unfolding turns
loop-k-init c = put-none c.args.line.now c.args.at

pub put_step-end-requires : goal.put_step-end-requires
put_step-end-requires c = let h = room (goal.at.put_step-end-requires c).At-loop-k in omega (arith, h, c.requires)

pub loop-k-preserved : goal.loop-k-preserved
loop-k-preserved c =
    let h = room (goal.at.loop-k-preserved c).At-loop-k in
    step-next c.args.line.now c.args.at c.args.set c.loop-k.k c.loop-k.invariant c.put_step-end.ensures (omega (arith, h, c.requires))

pub returns : goal.returns
unfolding steps_in
returns c =
    let l = c.loop-k in
    let all : l.k ≡ 64 = omega arith in
    subst (λ (k : ℕ). Put c.args.line.now c.args.at (joined (step_at c.args.set) k) l.line l.end) all l.invariant
