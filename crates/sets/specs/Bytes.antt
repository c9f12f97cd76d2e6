-- Bytes written over a part of a buffer.
use Rattle.std.specs.Prelude.{ℕ, ◌+◌, List, ◌++◌, ◌≡◌, length, take, drop}

-- the bytes e with t written over them from a place on
abbrev pub over : List ℕ → ℕ → List ℕ → List ℕ
over e at t = take at e ++ (t ++ drop (length t) (drop at e))

-- what each function that writes t into a buffer e leaves there, and the place behind t that it answers
abbrev pub Put : List ℕ → ℕ → List ℕ → List ℕ → ℕ → Type 0
Put e at t now end = (now ≡ over e at t) × (end ≡ at + length t)
