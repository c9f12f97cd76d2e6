-- 6. "Each output gets the value of its first active action in the table, else 0."
use Rattle.std.specs.Prelude.{ℕ, zero, suc, Bool, cond, ◌&&◌, List, ◌++◌, length, get_or, drop, ℤ, pos, ◌==◌, nat_le, slice_index, slice_index_or}
use Rattle.sets.specs.Loops.{table}
use Rattle.sets.specs.Sets.{has}

-- v of the first of the m numbers from a on of which p holds, else d
unfoldable pub first : {A : Type 0} → (ℕ → Bool) → (ℕ → A) → A → ℕ → ℕ → A
first p v d zero a = d
first p v d (suc m) a = cond (p a) (v a) (first p v d m (suc a))

-- action a is active and drives output o
abbrev pub drives : List ℕ → ℕ → ℕ → ℕ → Bool
drives output activity o a = has activity a && slice_index output a == o

-- the value of the first active action that drives output o, else d
abbrev pub output_of : ℕ → List ℕ → List ℤ → ℕ → ℤ → ℕ → ℤ
output_of n output value activity d o = first (drives output activity o) (λ a. get_or value a (pos 0)) d n 0

unfoldable pub outputs_of : ℕ → List ℕ → List ℤ → ℕ → List ℤ
outputs_of n output value activity = table (output_of n output value activity (pos 0)) 32

-- "an accepted call writes the first 32 and no others"; where fewer are lent, none is written
abbrev pub written : ℕ → List ℕ → List ℤ → ℕ → List ℤ → List ℤ
written n output value activity out = cond (nat_le 32 (length out)) (outputs_of n output value activity ++ drop 32 out) out

-- on the way there: 0 in the first 32, and outputs that keep what they had where no action drives them
abbrev pub wiped : List ℤ → List ℤ
wiped out = table (λ o. pos 0) 32 ++ drop 32 out

abbrev pub driven : ℕ → List ℕ → List ℤ → ℕ → List ℤ → List ℤ
driven n output value activity out = table (λ o. output_of n output value activity (slice_index_or out o (pos 0)) o) 32 ++ drop 32 out
