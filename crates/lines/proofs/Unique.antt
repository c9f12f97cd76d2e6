-- Two answers that one statement allows are equal, for each public function; and the lent buffers with them, where bytes are put.
use Prim.Native.Nat.{ℕ, ◌+◌, ◌%◌}
use mathlib.Core.List.{List, ◌++◌}
use mathlib.Core.Path.{◌≡◌}
use lib.ListN.{length}
use Rattle.sets.proofs.Unique.{one_answer}
use Rattle.lines.specs.Lines.{text, digit, hex, decimal, named_line, chart_line, Puts}

pub digit-unique : (n r q : ℕ) → r ≡ digit (n % 16) → q ≡ digit (n % 16) → r ≡ q
digit-unique n r q = one_answer

-- whatever is put, and whatever the room
abbrev OnePut : ℕ → List ℕ → ℕ → List ℕ → Type 0
OnePut room line at t = (r q : ℕ) (f g : List ℕ) → Puts room line at t f r → Puts room line at t g q → (r ≡ q) × (f ≡ g)

puts-unique : (room : ℕ) (line : List ℕ) (at : ℕ) (t : List ℕ) → OnePut room line at t
puts-unique room line at t r q f g e h = (one_answer e.1 h.1, one_answer e.0 h.0)

pub put-unique : (line : List ℕ) (at : ℕ) (bytes : List ℕ) → OnePut (length bytes) line at bytes
put-unique line at bytes = puts-unique (length bytes) line at bytes

pub put-decimal-unique : (line : List ℕ) (at n : ℕ) → OnePut 20 line at (decimal n)
put-decimal-unique line at n = puts-unique 20 line at (decimal n)

pub put-word-unique : (line : List ℕ) (at k n : ℕ) → OnePut (k + 1) line at (text " " ++ hex k n)
put-word-unique line at k n = puts-unique (k + 1) line at (text " " ++ hex k n)

pub put-named-unique : (line : List ℕ) (at : ℕ) (name : List ℕ) (n : ℕ) → OnePut (length name + 20) line at (name ++ decimal n)
put-named-unique line at name n = puts-unique (length name + 20) line at (name ++ decimal n)

pub put-line-unique : (line : List ℕ) (at : ℕ) (name : List ℕ) (n : ℕ) → OnePut (length name + 21) line at (named_line name n)
put-line-unique line at name n = puts-unique (length name + 21) line at (named_line name n)

pub chart-line-unique : (line : List ℕ) (at code : ℕ) → OnePut 35 line at (chart_line code)
chart-line-unique line at code = puts-unique 35 line at (chart_line code)
