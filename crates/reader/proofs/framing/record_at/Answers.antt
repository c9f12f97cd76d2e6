-- The head's number, and the answer that it makes.
use Rattle.std.proofs.Common.{◌-◌, ◌<◌, length, sym, ◌∙◌, arith}
use Rattle.refusals.proofs.Laws.{number-some}
use Rattle.reader.proofs.framing.Laws.{short, headed, refuses, ends, finds}
use Rattle.reader.proofs.framing.record_at.Goals.{then-size-lt4-via-then-size-lt4, then-size-lt4-via-else-size-lt4+then-size-at}
use Rattle.reader.proofs.framing.record_at.Goals as goal

pub returns-then-size-lt4 : goal.returns-then-size-lt4
returns-then-size-lt4 c =
    let h : length c.args.bytes.now - c.args.at < 4 =
    elim c.then-size-lt4.branch [
      | then-size-lt4-via-then-size-lt4 w ↦ omega arith
      | then-size-lt4-via-else-size-lt4+then-size-at w ↦ omega arith
    ] in
    refuses _ _ _ 1 (short _ _ _ h) (λ e. omega arith)

pub returns-in-Err : goal.returns-in-Err
returns-in-Err c =
    refuses _ _ _ _ (headed _ _ _ (omega arith) c.u16_at-length.ensures c.u16_at-kind.ensures c.in-Err.ensures) (number-some _)

pub returns-then-kind-eq0 : goal.returns-then-kind-eq0
returns-then-kind-eq0 c =
    ends _ _ _ (headed _ _ _ (omega arith) c.u16_at-length.ensures c.u16_at-kind.ensures c.in_default.ensures) (sym c.u16_at-kind.ensures ∙ c.if-kind-eq0.true)

pub returns : goal.returns
returns c =
    let e = headed c.args.bytes.now c.args.at c.args.before (omega arith) c.u16_at-length.ensures c.u16_at-kind.ensures c.in_default.ensures in
    rw (c.u16_at-kind.ensures, c.u16_at-length.ensures) (finds _ _ _ e (λ z. c.if-kind-eq0.false (c.u16_at-kind.ensures ∙ z)))
