-- What each output has from the actions passed, the last first.
use Rattle.std.proofs.Common.{◌≡◌, ℕ, ◌-◌, ◌%◌, ◌≤◌, min, get_or, pos, sym, refl, ap, ◌∙◌, mod-lt, mod-eq_of_lt, arith, to_z-of_z, w32, SFits, rules}
use Rattle.passes.specs.Rests.{rests}
use Rattle.passes.specs.Outputs.{output_of}
use Rattle.passes.proofs.rests.Laws.{rest_at}
use Rattle.passes.proofs.outputs.Laws.{front-as, front-put, front-end, from, from_end, from_all, from-idle, from-written, from-other}
use Rattle.passes.proofs.outputs.drive.Goals as goal

-- an action's number is below 64
low : (a n : ℕ) → a ≤ min n 32 → (a - 1) % 64 ≡ a - 1
low a n l = mod-eq_of_lt (omega arith)

pub loop-a-init : goal.loop-a-init
loop-a-init c = rw c.min-a.ensures (record { long = refl; passed = λ j h. from_end _ _ _ _ _ j; behind = refl })

pub loop-a-preserved-then-is_in_mod : goal.loop-a-preserved-then-is_in_mod
loop-a-preserved-then-is_in_mod c =
    let l = c.loop-a in
    let h = c.args.chart.now in
    let n = min h.actions 32 in
    let k : l.a ≤ n = omega arith in
    let f = rw (low l.a _ k) at (sym c.is_in_mod.ensures ∙ c.if-is_in_mod.true) in
    let o = sym (rest_at 32 h.output (l.a - 1)) in
    let fits : SFits w32 (get_or h.value (l.a - 1) (pos 0)) = search rules in
    rw c.action-action.ensures
    (front-put 32 _ _ _ _ _ _ _ l.invariant (mod-lt (get_or h.output (l.a - 1) 0) (omega arith)) c.requires
    (to_z-of_z {w = w32} fits ∙ from-written n (rests 32 h.output) h.value c.args.activity l.a _ c.loop-a-test.true k _ f o)
    (λ j q z. from-other n _ _ _ l.a _ c.loop-a-test.true k _ j f o z))

pub loop-a-preserved : goal.loop-a-preserved
loop-a-preserved c =
    let l = c.loop-a in
    let n = min c.args.chart.now.actions 32 in
    let k : l.a ≤ n = omega arith in
    let f = rw (low l.a _ k) at (sym c.is_in_mod.ensures ∙ c.if-is_in_mod.false) in
    front-as 32 _ _ 32 _ _ l.invariant (λ j q. from-idle n _ _ _ l.a _ c.loop-a-test.true k j f)

pub returns : goal.returns
returns c =
    let l = c.loop-a in
    let h = c.args.chart.now in
    let n = min h.actions 32 in
    let output = rests 32 h.output in
    let out = c.args.out.now in
    let z : l.a ≡ 0 = omega (arith, c.loop-a-test.false) in
    front-end 32 _ 32 _ _
    (front-as 32 _ (λ o. output_of n output h.value c.args.activity (get_or out o (pos 0)) o) 32 _ _ l.invariant
    (λ j q. ap (λ (x : ℕ). from n output h.value c.args.activity x (get_or out j (pos 0)) j) z ∙ from_all _ _ _ _ _ j))
    (omega arith) c.requires
