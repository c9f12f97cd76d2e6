-- A number of one byte, one that is cut, and one that is whole.
use Rattle.std.proofs.Common.{ℕ, ◌-◌, ◌≤◌, ◌<◌, ◌≡◌, List, length, get_or, arith}
use borrow.Author.Tests.{le-leb, lt-leb}
use Rattle.reader.specs.Numbers.{le, le_from}

-- a number of one byte is that byte
pub le-one : (s : List ℕ) (at : ℕ) → le 1 s at ≡ get_or s at 0
le-one s at = omega arith

-- a number that is cut, and one that is whole
pub cut : (w : ℕ) (s : List ℕ) (at : ℕ) → length s - at < w → 0 ≡ le_from w s at
cut w s at h = rw (lt-leb w (length s - at) h)

pub whole : (w : ℕ) (s : List ℕ) (at : ℕ) → w ≤ length s - at → le_from w s at ≡ le w s at
whole w s at h = rw (le-leb w (length s - at) h)
