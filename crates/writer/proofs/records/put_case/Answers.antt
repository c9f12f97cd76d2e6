-- The head and then the fields.
use mathlib.Core.List.{[], ◌∷◌}
use native.Mathlib.Omega.{arith}
use Rattle.sets.proofs.Bytes.{put-put}
use Rattle.reader.specs.Numbers.{numbers_bytes}
use Rattle.reader.specs.Framing.{record_bytes}
use Rattle.writer.proofs.records.Laws.{byte}
use Rattle.writer.proofs.records.put_case.Goals as goal

pub returns : goal.returns
returns c =
    let a = c.args in
    let k = a.case in
    put-put a.bytes.now a.at (record_bytes 5 []) (numbers_bytes (1 ∷ 1 ∷ 1 ∷ []) (k.step ∷ k.signal ∷ k.expected ∷ []))
    c.put_head-body.ensures (rw (byte k.step (omega arith), byte k.signal (omega arith), byte k.expected (omega arith)) c.put.ensures) (omega arith)
