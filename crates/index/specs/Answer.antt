-- The answer of building: a number, and word k for step k.
use Rattle.std.specs.Prelude.{ℕ, List, Result, Ok, Err, replicate}
use Rattle.refusals.specs.declared.Refusal.{Refusal}
use Rattle.refusals.specs.Refusals.{number}

pub record Indexed : Type 0 where
  pub code : ℕ
  pub leaving : List ℕ

-- "refused gives all zeros"
abbrev pub indexed_of : Result (List ℕ) Refusal → Indexed
indexed_of (Ok words) = record { code = 0; leaving = words }
indexed_of (Err e) = record { code = number e; leaving = replicate 64 0 }
