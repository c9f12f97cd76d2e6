-- The same test on either side of 32.
use Prim.Native.Nat.{◌+◌, ◌-◌}
use lib.Dec.{ltb}
use mathlib.Core.Path.{sym}
use native.Mathlib.Omega.{arith}
use borrow.Author.Tests.{lt-ltb, ltb-true}
use Rattle.sets.proofs.Loops.{bool_eq}
use Rattle.fields.proofs.signal_exists.Goals as goal

pub returns-then-signal-lt32 : goal.returns-then-signal-lt32
returns-then-signal-lt32 c = let a = c.args in sym (lt-ltb a.signal (32 + a.actions) (omega arith))

pub returns : goal.returns
returns c =
    let a = c.args in
    bool_eq (ltb (a.signal - 32) a.actions) (ltb a.signal (32 + a.actions))
    (λ e. lt-ltb a.signal (32 + a.actions) (omega (arith, ltb-true (a.signal - 32) a.actions e)))
    (λ e. lt-ltb (a.signal - 32) a.actions (omega (arith, ltb-true a.signal (32 + a.actions) e)))
