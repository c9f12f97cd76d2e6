-- "After the end or a refusal it doesn't move, and asking again answers the same. A place beyond the bytes answers 1."
use Prim.Native.Nat.{ℕ, ◌+◌, ◌≤◌}
use mathlib.Core.List.{List}
use mathlib.Core.Path.{◌≡◌, sym, ap, subst, ◌∙◌}
use lib.ListN.{length}
use native.Mathlib.Omega.{arith}
use Rattle.reader.specs.Framing.{place_after}
use Rattle.reader.specs.Answer.{Next}
use Rattle.reader.specs.Answer.{Record, Refused}
use Rattle.reader.proofs.framing.Laws.{is_found, Stopped, stays, beyond}
use Rattle.records.specs.Asking.{Finds, Asks}
use Rattle.records.specs.Answer.{Found}
use Rattle.records.specs.declared.Records.{Records}
use Rattle.records.proofs.Unique.{record-from-unique, next-record-unique}

-- ---- with plain parameters

pub found-stays : (s : List ℕ) (at before : ℕ) (r : Found) → Stopped r.answer → Finds r s at before → (r.at ≡ at) × (r.before ≡ before)
found-stays s at before r z x = let w = stays r.answer at before z in (x.place ∙ w.0, x.kind ∙ w.1)

pub found-again : (s : List ℕ) (at before : ℕ) (r q : Found) → Stopped r.answer → Finds r s at before → Finds q s r.at r.before → q ≡ r
found-again s at before r q z x y = let w = found-stays s at before r z x in record-from-unique s at before q r (rw (w.0, w.1) at y) x

-- after a record the place is behind its head, and still in the bytes
pub found-grows : (s : List ℕ) (at before : ℕ) (r : Found) (k p n : ℕ) → r.answer ≡ Record k p n → Finds r s at before → (at + 4 ≤ r.at) × (r.at ≤ length s)
found-grows s at before r k p n e x =
    let f = is_found s at before k p n (rw e at x.answer) in
    let h = f.headed in
    let place : r.at ≡ p + n = x.place ∙ ap (λ (a : Next). place_after a at) e in
    (omega (arith, place, f.place), omega (arith, place, f.place, f.size, h.whole))

-- ---- the reader that is lent

pub does-not-move : (d e : Records) (a : Next) → Stopped a → Asks a d e → e ≡ d
does-not-move d e a z x =
    let w = found-stays d.bytes.now d.at d.before _ z x.found in
    λ i. record { bytes = x.same i; at = w.0 i; before = w.1 i }

-- the second answer is b, and the reader is f then
pub asked-again : (d e f : Records) (a b : Next) → Stopped a → Asks a d e → Asks b e f → (b ≡ a) × (f ≡ d)
asked-again d e f a b z x y =
    let still = does-not-move d e a z x in
    let u = next-record-unique d f e b a (subst (λ (t : Records). Asks b t f) still y) x in
    (u.0, u.1 ∙ still)

pub asked-beyond : (d e : Records) (a : Next) → length d.bytes.now ≤ d.at → Asks a d e → (a ≡ Refused 1 d.at) × (e ≡ d)
asked-beyond d e a h x =
    let one = beyond d.bytes.now d.at d.before a h x.found.answer in
    (one, does-not-move d e a (subst Stopped (sym one) Stopped.refused) x)
