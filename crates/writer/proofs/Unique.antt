-- Two answers that the writer's statement allows are equal, and so is what they leave in the lent bytes.
use Prim.Native.Nat.{ℕ}
use mathlib.Core.List.{List}
use mathlib.Core.Path.{◌≡◌, sym, ap}
use Rattle.std.proofs.Common.{Result, Ok, Err}
use Rattle.sets.proofs.Unique.{one_answer}
use Rattle.refusals.specs.declared.Refusal.{Refusal}
use Rattle.refusals.proofs.Laws.{number-some, number-one}
use Rattle.chart.specs.declared.chart.Chart.{Chart}
use Rattle.writer.specs.Writing.{write_chart}
use Rattle.writer.specs.Answer.{Writing, writing_of}

pub writing-one : (r q : Result ℕ Refusal) → writing_of r ≡ writing_of q → r ≡ q
writing-one (Ok m) (Ok n) e = ap Ok (ap (λ (w : Writing). w.length) e)
writing-one (Ok m) (Err s) e = absurd (number-some s (sym (ap (λ (w : Writing). w.code) e)))
writing-one (Err r) (Ok n) e = absurd (number-some r (ap (λ (w : Writing). w.code) e))
writing-one (Err r) (Err s) e = ap Err (number-one r s (ap (λ (w : Writing). w.code) e))

-- what the statement says of them
pub write-chart-unique : (c : Chart) (lent : List ℕ) (r q : Writing × List ℕ) → r ≡ write_chart c lent → q ≡ write_chart c lent → r ≡ q
write-chart-unique c lent r q = one_answer

pub write-chart-one : (c : Chart) (lent : List ℕ) (r q : Result ℕ Refusal) (l m : List ℕ)
    → ◌≡◌ {A = Writing × List ℕ} (writing_of r, l) (write_chart c lent) → ◌≡◌ {A = Writing × List ℕ} (writing_of q, m) (write_chart c lent) → (r ≡ q) × (l ≡ m)
write-chart-one c lent r q l m e f =
    let g = one_answer {A = Writing × List ℕ} e f in
    (writing-one r q (ap (λ (p : Writing × List ℕ). p.0) g), ap (λ (p : Writing × List ℕ). p.1) g)
