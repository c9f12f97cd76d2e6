-- Two answers that one statement allows are equal. Reading, the held test, writing, the tally and the weighing answer by the equations of their parts,
-- which say it.
use Prim.Native.Nat.{ℕ}
use mathlib.Core.List.{List}
use mathlib.Core.Path.{◌≡◌, sym, ap, ◌∙◌}
use Rattle.records.specs.Answer.{Found}
use Rattle.records.proofs.Unique.{record-from-unique}
use Rattle.desk.specs.Lent.{told_of, Tells, Told}

-- what is told of a record, and where the next question goes
abbrev Spelled : Type 0
Spelled = Told × ℕ × ℕ

abbrev tells_of : Spelled → List ℕ → ℕ → ℕ → Type 0
tells_of (t, next, kept) s at before = Tells t.code t.kind t.place t.length next kept s at before

pub next-record-unique : (s : List ℕ) (at before : ℕ) (r q : Spelled) → tells_of r s at before → tells_of q s at before → r ≡ q
next-record-unique s at before r q e f =
    let same = record-from-unique s at before _ _ e.finds f.finds in
    let told = e.told ∙ ap (λ (d : Found). told_of d.answer) same ∙ sym f.told in
    λ i. (told i, (same i).at, (same i).before)
