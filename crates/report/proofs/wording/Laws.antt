-- The digits of reasons, one after the other.
use Prim.Native.Nat.{ℕ, ◌+◌, ◌≤◌, ◌<◌}
use mathlib.Core.List.{List}
use mathlib.Core.Path.{◌≡◌, sym, ◌∙◌}
use native.Mathlib.Omega.{arith}
use lib.ListN.{length, get_or, take, set, length-append}
use Rattle.sets.specs.Bytes.{Put}
use Rattle.sets.specs.Loops.{table}
use Rattle.sets.proofs.Bytes.{put-put, put-turn, put_all}
use Rattle.sets.proofs.Loops.{length-table, get_or-table}
use Rattle.lines.specs.Lines.{text, digit}
use Rattle.report.specs.Wording.{reasons_line}

abbrev pub reason_digits : ℕ → List ℕ → List ℕ
reason_digits n reasons = table (λ t. digit (get_or reasons t 0)) n

digits_long : (n : ℕ) (reasons : List ℕ) → length (reason_digits n reasons) ≡ n
digits_long n reasons = length-table (λ t. digit (get_or reasons t 0)) n

pub reasons-length : (n : ℕ) (reasons : List ℕ) → length (reasons_line n reasons) ≡ n + 1
unfolding reasons_line
reasons-length n reasons = omega (arith, length-append (reason_digits n reasons) (text "\n"), digits_long n reasons)

-- so many are written
abbrev pub Digits : List ℕ → ℕ → ℕ → List ℕ → ℕ → List ℕ → Type 0
Digits e at n reasons t l = Put e at (take t (reason_digits n reasons)) l (at + t)

module _ (e : List ℕ) (at n : ℕ) (reasons : List ℕ) (room : at + (n + 1) ≤ length e) where
  -- one more
  pub digits-turn : (t d : ℕ) (l : List ℕ) → Digits e at n reasons t l → t < n → d ≡ digit (get_or reasons t 0) → Digits e at n reasons (t + 1) (set l (at + t) d)
  digits-turn t d l p h q =
      let m = digits_long n reasons in
      rw (q ∙ sym (get_or-table (λ t. digit (get_or reasons t 0)) n t 0 h)) (put-turn e at (reason_digits n reasons) l t p (omega arith) (omega arith))

  -- all, and the line end behind them
  pub digits-end : (t r : ℕ) (l f : List ℕ) → Digits e at n reasons t l → t ≡ n → Put l (at + n) (text "\n") f r → Put e at (reasons_line n reasons) f r
  unfolding reasons_line
  digits-end t r l f p h q =
      let m = digits_long n reasons in
      put-put e at (reason_digits n reasons) (text "\n") (put_all e at (reason_digits n reasons) l t p (omega arith)) (rw m q) (omega arith)
