-- Two answers that one statement allows are equal, for each public function.
use Prim.Native.Nat.{ℕ}
use mathlib.Core.List.{List}
use mathlib.Core.Path.{◌≡◌, sym, ap, ◌∙◌}
use denote.Ref.{Bor}
use Rattle.reader.specs.Framing.{place_after, kind_after}
use Rattle.std.proofs.Common.{Option, Result}
use Rattle.reader.specs.Answer.{Next, next_of}
use Rattle.reader.specs.declared.framing.Fault.{Fault}
use Rattle.reader.specs.declared.framing.Record.{Record}
use Rattle.reader.proofs.Unique.{next-one}
use Rattle.reader.proofs.framing.Laws.{record-at-unique}
use Rattle.records.specs.Asking.{Finds, opening, Asks}
use Rattle.records.specs.Answer.{Found}
use Rattle.records.specs.declared.Records.{Records}

pub opened-unique : (s : Bor (List ℕ)) (r q : Records) → r ≡ opening s → q ≡ opening s → r ≡ q
opened-unique s r q e f = e ∙ sym f

-- the answer decides the place and the kind before
pub record-from-unique : (s : List ℕ) (at before : ℕ) (r q : Found) → Finds r s at before → Finds q s at before → r ≡ q
record-from-unique s at before r q e f =
    let same = record-at-unique s at before r.answer q.answer e.answer f.answer in
    let place = e.place ∙ ap (λ (a : Next). place_after a at) same ∙ sym f.place in
    let kind = e.kind ∙ ap (λ (a : Next). kind_after a before) same ∙ sym f.kind in
    λ i. record { answer = same i; at = place i; before = kind i }

-- the answer, and the reader that was lent
pub next-record-unique : (d e f : Records) (a b : Next) → Asks a d e → Asks b d f → (a ≡ b) × (e ≡ f)
next-record-unique d e f a b x y =
    let same = record-from-unique d.bytes.now d.at d.before _ _ x.found y.found in
    let bytes = x.same ∙ sym y.same in
    ((λ i. (same i).answer), (λ i. record { bytes = bytes i; at = (same i).at; before = (same i).before }))

-- as the code answers
pub record-from-one : (s : List ℕ) (at before p p' k k' : ℕ) (a b : Result (Option Record) Fault)
    → Finds (record { answer = next_of a; at = p; before = k }) s at before → Finds (record { answer = next_of b; at = p'; before = k' }) s at before
    → (a ≡ b) × (p ≡ p') × (k ≡ k')
record-from-one s at before p p' k k' a b e f =
    let same = record-from-unique s at before _ _ e f in
    (next-one a b (ap (λ (r : Found). r.answer) same), ap (λ (r : Found). r.at) same, ap (λ (r : Found). r.before) same)

pub next-record-one : (d e f : Records) (a b : Result (Option Record) Fault) → Asks (next_of a) d e → Asks (next_of b) d f → (a ≡ b) × (e ≡ f)
next-record-one d e f a b x y = let u = next-record-unique d e f _ _ x y in (next-one a b u.0, u.1)
