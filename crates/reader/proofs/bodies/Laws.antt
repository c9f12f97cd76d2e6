-- The fields of each kind by their places: what the functions read is what the table of kinds says.
use Prim.Native.Nat.{ℕ, ◌+◌}
use mathlib.Core.List.{List}
use mathlib.Core.Path.{◌≡◌}
use native.Mathlib.Omega.{arith}
use lib.ListN.{get_or}
use mir.Syntax.{w32}
use mir.Val.{to_z}
use Rattle.reader.specs.Numbers.{le}
use Rattle.reader.specs.Bodies.{body_of, fields_at}
use Rattle.judging.specs.declared.Body.TheVariants.{Step, Action, Transition, Block, Case, Edition}
use Rattle.reader.proofs.numbers.Laws.{le-one}

module _ (s : List ℕ) (at : ℕ) where
  two : at + 1 + 1 ≡ at + 2
  two = omega arith

  pub step-fields : body_of 1 (fields_at s 1 at) ≡ Step (get_or s at 0)
  step-fields = rw (le-one s at)

  pub action-fields : body_of 2 (fields_at s 2 at) ≡ Action (get_or s at 0) (to_z w32 (le 4 s (at + 1)))
  action-fields = rw (le-one s at)

  pub transition-fields : body_of 3 (fields_at s 3 at) ≡ Transition (le 8 s at) (le 8 s (at + 8)) (le 8 s (at + 16)) (le 8 s (at + 24)) (le 4 s (at + 32))
  transition-fields =
      let a : at + 8 + 8 ≡ at + 16 = omega arith in
      let b : at + 16 + 8 ≡ at + 24 = omega arith in
      let c : at + 24 + 8 ≡ at + 32 = omega arith in
      rw (a, b, c)

  pub block-fields : body_of 4 (fields_at s 4 at) ≡ Block (get_or s at 0) (get_or s (at + 1) 0) (get_or s (at + 2) 0) (le 4 s (at + 3))
  block-fields = let c : at + 2 + 1 ≡ at + 3 = omega arith in rw (le-one s at, le-one s (at + 1), two, le-one s (at + 2), c)

  pub case-fields : body_of 5 (fields_at s 5 at) ≡ Case (get_or s at 0) (get_or s (at + 1) 0) (get_or s (at + 2) 0)
  case-fields = rw (le-one s at, le-one s (at + 1), two, le-one s (at + 2))

  pub edition-fields : body_of 6 (fields_at s 6 at) ≡ Edition (get_or s at 0)
  edition-fields = rw (le-one s at)
