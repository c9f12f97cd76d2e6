-- "all little-endian": a number and its bytes, and several of given widths, one behind the other.
use Rattle.std.specs.Prelude.{ℕ, zero, suc, ◌+◌, ◌-◌, ◌*◌, ◌/◌, ◌%◌, List, [], ◌∷◌, ◌++◌, cond, length, get_or, leb}

-- the number that w bytes of s are from a place on, the least byte first
abbrev pub le : ℕ → List ℕ → ℕ → ℕ
le zero s at = 0
le (suc w) s at = get_or s at 0 + 256 * le w s (at + 1)

-- the same, 0 where fewer than w bytes are left
abbrev pub le_from : ℕ → List ℕ → ℕ → ℕ
le_from w s at = cond (leb w (length s - at)) (le w s at) 0

-- the w bytes of a number, the least first
abbrev pub bytes_of : ℕ → ℕ → List ℕ
bytes_of zero x = []
bytes_of (suc w) x = x % 256 ∷ bytes_of w (x / 256)

-- numbers of these widths, read from a place on
abbrev pub numbers_at : List ℕ → List ℕ → ℕ → List ℕ
numbers_at [] s at = []
numbers_at (w ∷ widths) s at = le w s at ∷ numbers_at widths s (at + w)

-- the bytes of numbers of these widths
abbrev pub numbers_bytes : List ℕ → List ℕ → List ℕ
numbers_bytes [] xs = []
numbers_bytes (w ∷ widths) [] = []
numbers_bytes (w ∷ widths) (x ∷ xs) = bytes_of w x ++ numbers_bytes widths xs

-- how many bytes they take
abbrev pub total : List ℕ → ℕ
total [] = 0
total (w ∷ widths) = w + total widths
