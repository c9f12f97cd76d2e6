-- A record's body lies in the bytes.
use Rattle.std.proofs.Common.{arith}
use Rattle.reader.proofs.framing.Laws.{is_found}
use Rattle.records.proofs.record_from.Goals as goal

pub overflow_add-at : goal.overflow_add-at
overflow_add-at c =
    let f = is_found _ _ _ _ _ _ (rw c.in-Some.is at c.in_ok-found.ensures) in
    let h = f.headed in
    omega (arith, f.place, f.size, h.whole)
