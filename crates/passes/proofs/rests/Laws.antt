-- Tables of numbers that go by their rest.
use Rattle.std.proofs.Common.{◌≡◌, ℕ, ◌%◌, ◌<◌, List, get_or, mod-lt}
use native.Mathlib.Nat.{zero-mod}
use lib.ListN.{get_or-map}
use Rattle.passes.specs.Rests.{rests}

-- what a table of rests has is the rest of what the table has
pub rest_at : (n : ℕ) (l : List ℕ) (k : ℕ) → get_or (rests n l) k 0 ≡ get_or l k 0 % n
rest_at n l k = rw zero-mod at (get_or-map (λ (x : ℕ). x % n) l k 0)

pub rest_lt : (n : ℕ) (l : List ℕ) (k : ℕ) → 0 < n → get_or (rests n l) k 0 < n
rest_lt n l k h = rw rest_at (mod-lt (get_or l k 0) h)
