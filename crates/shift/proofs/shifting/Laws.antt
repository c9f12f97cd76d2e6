-- Lists that fit, and the tests before any cycle.
use Prim.Native.Nat.{ℕ, ◌≤◌}
use mathlib.Core.List.{List, []}
use mathlib.Core.Bool.{Bool, true, false, cond}
use mathlib.Core.Path.{◌≡◌, refl, sym, ◌∙◌}
use lib.IntN.{ℤ}
use lib.ListN.{length}
use lib.Dec.{leb, eqb}
use borrow.Author.Tests.{leb-true, eqb-true, eqb-false, ne_eqb}
use Rattle.sets.proofs.Loops.{and-true}
use Rattle.chart.specs.declared.chart.Chart.{Chart}
use Rattle.run.specs.declared.run.Run.{Run}
use Rattle.cycle.specs.Cycling.{ready_code, indexed_code}
use Rattle.cycle.proofs.cycling.Laws.{stops}
use Rattle.cycle.proofs.calling.Laws.{none-indexed}
use Rattle.shift.specs.Shifting.{Done, answer_of, lists_fit, shift_code, shift_of, shift_by}

-- lists that fit
pub fit : (clocks inputs words : ℕ) → lists_fit clocks inputs words ≡ true → (inputs ≡ clocks) × (words ≡ clocks) × (clocks ≤ 4096)
fit clocks inputs words e =
    let x = and-true _ (leb clocks 4096) e in
    let y = and-true (eqb clocks inputs) (eqb clocks words) x.0 in
    (sym (eqb-true clocks inputs y.0), sym (eqb-true clocks words y.1), leb-true clocks 4096 x.1)

-- ---- the tests before any cycle

module _ (c : Chart) (r : Run) (clocks inputs words : List ℕ) (out : List ℤ) where
  abbrev tests : ℕ
  tests = shift_code c r (length out) (length clocks) (length inputs) (length words)

  -- "all before any cycle, with 0 accepted and nothing written"
  pub before-any : (n : ℕ) → n ≡ tests → (n ≡ 0 → ⊥) → ◌≡◌ {A = Done} (answer_of n 0 r, words, out) (shift_of c r clocks inputs words out)
  before-any n e z = rw (← e, ne_eqb n 0 z)

-- ---- without an index (document 02, request ix)

pub shift-by-none : (c : Chart) (r : Run) (clocks inputs words : List ℕ) (out : List ℤ) → shift_by c [] r clocks inputs words out ≡ shift_of c r clocks inputs words out
shift-by-none c r clocks inputs words out = go (eqb code 0) refl
  where
    code : ℕ
    code = indexed_code c [] (length out)

    go : (b : Bool) → eqb code 0 ≡ b → cond b (shift_of c r clocks inputs words out) (answer_of code 0 r, words, out) ≡ shift_of c r clocks inputs words out
    go true q = refl
    go false q =
        let z = eqb-false code 0 q in
        let same = none-indexed c r (length out) z in
        before-any c r clocks inputs words out code (same ∙ stops (ready_code c r (length out)) _ (λ n. z (same ∙ n))) z
