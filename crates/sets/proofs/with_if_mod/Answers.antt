-- By the bit that is put in or not.
use Prim.Native.Nat.{ℕ, ◌*◌, ◌%◌, ◌^◌, ◌<◌}
use mathlib.Core.Bool.{Bool, true, false, cond}
use mathlib.Core.Path.{◌≡◌, ap, ◌∙◌}
use native.Mathlib.Nat.{zero-mul}
use lib.Bits.{bit_or, or_zero_r}
use mir.Val.{bool_byte}
use Rattle.sets.specs.Sets.{insert}
use Rattle.sets.proofs.Members.{or-shl-insert}
use borrow.Author.Rules.{rules}
use Rattle.sets.proofs.with_if_mod.Goals as goal

put : (s k : ℕ) (b : Bool) → s < 2 ^ 64 → k < 64 → bit_or s (bool_byte b * 2 ^ k % 2 ^ 64) ≡ cond b (insert s k) s
put s k true h l = or-shl-insert s k h l
put s k false h l = ap (bit_or s) (ap (λ (x : ℕ). x % 2 ^ 64) (zero-mul (2 ^ k))) ∙ or_zero_r s

pub returns : goal.returns
returns c = put c.args.s (c.args.k % 64) c.args.b (search rules) (search rules)
