-- Document 02, request (vi): reasons that a call leaves.
use Rattle.std.specs.Prelude.{ℕ, cond, List, replicate, ◌==◌}

-- "Reasons of a start, of a refused call .. are 0."
abbrev pub no_reasons : List ℕ
no_reasons = replicate 64 0

-- reasons that a call with this number leaves
abbrev pub kept_if : ℕ → List ℕ → List ℕ
kept_if code reasons = cond (code == 0) reasons no_reasons
