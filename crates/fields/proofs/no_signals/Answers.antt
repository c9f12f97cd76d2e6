-- With all 32 actions every signal exists.
use native.Mathlib.Omega.{arith}
use Prim.Native.Nat.{◌+◌}
use Rattle.sets.proofs.Members.{none-beyond}
use Rattle.fields.proofs.no_signals.Goals as goal

pub returns : goal.returns
returns c = none-beyond (32 + c.args.actions) (omega arith)
