-- The two editions' demand 3 in one: "equals" in the first, "at least" in the second (document 02, request viii).
use Prim.Native.Nat.{ℕ, ◌≤◌}
use Rattle.std.specs.Prelude.{◌≡◌}

-- a is at least b, and in the first edition it is b
pub record AtLeast (edition a b : ℕ) : Type 0 where
  pub least : b ≤ a
  pub equal : edition ≡ 1 → a ≡ b
