use Rattle.std.proofs.Common.{◌≡◌, ℕ, ◌+◌, ◌-◌, ◌<◌, length, List, Result, Ok, Err, refl, ap, ◌∙◌, arith}
use Rattle.std.specs.Result.{IsErrAnd}
use Rattle.refusals.proofs.Laws.{number-some}
use Rattle.reader.specs.declared.framing.Fault.{Fault}
use Rattle.reader.proofs.framing.Laws.{Found, is_found, is_known, is-end, is-refused}
use Rattle.reader.proofs.reading.Laws.{begin, refused-here, ended_here, ended-surplus, ended-refused, ended-accepted, halted, onward}
use Rattle.reader.proofs.reading.read_records.Goals as goal

-- the refusal that a `?` hands on
handed_on : {A : Type 0} (r : Result A Fault) (e : Fault) → IsErrAnd r (λ y. y ≡ e) → r ≡ Err e
handed_on (Ok x) e h = elim h [ ]
handed_on (Err y) e h = ap Err h

shrinks : {s : List ℕ} {at before k p n : ℕ} → Found s at before k p n → length s - (p + n) < length s - at
shrinks f = let h = f.headed in omega (arith, f.place, f.size, h.whole)

pub loop-record-init : goal.loop-record-init
loop-record-init c = rw c.requires (begin _)

pub returns-in_err-record : goal.returns-in_err-record
returns-in_err-record c =
    let a = c.in_err-record.ensures in
    let r = is-refused _ _ _ _ _ a in
    rw (handed_on _ _ c.from_residual.ensures.1, r.1) (refused-here _ _ _ _ c.loop-record.invariant _ a.number (number-some _))

pub take_at-requires : goal.take_at-requires
take_at-requires c =
    let k = is_known _ _ _ _ _ _ (is_found _ _ _ _ _ _ (rw c.in-Some.is at c.in_ok-record.ensures)) in
    (k.least, k.most, k.inside)

pub returns-in-Err : goal.returns-in-Err
returns-in-Err c =
    let f = is_found _ _ _ _ _ _ (rw c.in-Some.is at c.in_ok-record.ensures) in
    halted _ _ _ _ c.loop-record.invariant _ _ _ f _ refl _ c.in-Err.ensures.number (number-some _)

pub overflow_add-at : goal.overflow_add-at
overflow_add-at c =
    let f = is_found _ _ _ _ _ _ (rw c.in-Some.is at c.in_ok-record.ensures) in
    let h = f.headed in
    omega (arith, f.place, f.size, h.whole)

pub loop-record-smaller : goal.loop-record-smaller
loop-record-smaller c = shrinks (is_found _ _ _ _ _ _ (rw c.in-Some.is at c.in_ok-record.ensures))

pub loop-record-preserved : goal.loop-record-preserved
loop-record-preserved c =
    let f = is_found _ _ _ _ _ _ (rw c.in-Some.is at c.in_ok-record.ensures) in
    let t = c.in_default-take_at.ensures in
    rw (t.chart refl) (onward _ _ _ _ c.loop-record.invariant _ _ _ f _ refl t.number)

pub overflow_add-end : goal.overflow_add-end
overflow_add-end c = let e = is-end _ _ _ (rw c.in_default.is at c.in_ok-record.ensures) in omega (arith, e.1.begins)

pub returns-then-end-bytes : goal.returns-then-end-bytes
returns-then-end-bytes c =
    let e = is-end _ _ _ (rw c.in_default.is at c.in_ok-record.ensures) in
    ended-surplus _ _ _ c.if-end-bytes.true ∙ ended_here _ _ _ _ c.loop-record.invariant e.0 e.2

pub returns-in-Err-check_whole : goal.returns-in-Err-check_whole
returns-in-Err-check_whole c =
    let e = is-end _ _ _ (rw c.in_default.is at c.in_ok-record.ensures) in
    ended-refused _ _ _ c.if-end-bytes.false c.in-Err-check_whole.ensures (number-some _) ∙ ended_here _ _ _ _ c.loop-record.invariant e.0 e.2

pub returns : goal.returns
returns c =
    let e = is-end _ _ _ (rw c.in_default.is at c.in_ok-record.ensures) in
    ended-accepted _ _ _ c.if-end-bytes.false c.in_default-check_whole.ensures refl ∙ ended_here _ _ _ _ c.loop-record.invariant e.0 e.2
