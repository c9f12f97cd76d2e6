-- What a `?` answers: the number of the first test that refused.
use Prim.Native.Nat.{ℕ}
use mathlib.Core.Path.{◌≡◌, sym, ap, ◌∙◌}
use Rattle.std.proofs.Common.{Result, Ok, Err}
use Rattle.std.specs.Result.{IsErrAnd}
use borrow.Author.Tests.{ne_eqb}
use Rattle.sets.specs.Loops.{or_else}
use Rattle.refusals.specs.declared.Refusal.{Refusal}
use Rattle.refusals.specs.Refusals.{number, code_of}
use Rattle.refusals.proofs.Laws.{number-some}

pub exit-code : {A : Type 0} (r : Result A Refusal) (e : Refusal) → IsErrAnd r (λ y. y ≡ e) → code_of r ≡ number e
exit-code (Ok x) e h = elim h [ ]
exit-code (Err y) e h = ap number h

-- where a test refused, the numbers of later tests play no part
pub refused-first : (e : Refusal) {x : ℕ} (y : ℕ) → number e ≡ x → number e ≡ or_else x y
refused-first e {x} y h = h ∙ sym (rw (ne_eqb x 0 (λ z. number-some e (h ∙ z))))

pub exit-first : {A : Type 0} (r : Result A Refusal) (e : Refusal) {x : ℕ} (y : ℕ) → IsErrAnd r (λ k. k ≡ e) → number e ≡ x → code_of r ≡ or_else x y
exit-first r e y i h = exit-code r e i ∙ refused-first e y h

-- where it passed, theirs count
pub passed-first : {x : ℕ} (y : ℕ) → 0 ≡ x → y ≡ or_else x y
passed-first y h = rw (← h)
