-- The head and then the fields.
use mathlib.Core.List.{[], ◌∷◌}
use mathlib.Core.Path.{◌∙◌}
use native.Mathlib.Omega.{arith}
use Rattle.sets.proofs.Bytes.{put_three}
use Rattle.reader.specs.Numbers.{bytes_of, numbers_bytes}
use Rattle.reader.specs.Framing.{record_bytes}
use Rattle.writer.proofs.records.Laws.{byte, bytes-4}
use Rattle.writer.proofs.records.put_block.Goals as goal

pub returns : goal.returns
returns c =
    let a = c.args in
    let b = a.block in
    put_three a.bytes.now a.at (record_bytes 4 []) (numbers_bytes (1 ∷ 1 ∷ 1 ∷ []) (b.step ∷ b.action ∷ b.qualifier ∷ [])) (bytes_of 4 b.duration)
    c.put_head-body.ensures (rw (byte b.step (omega arith), byte b.action (omega arith), byte b.qualifier (omega arith)) c.put-last.ensures) (rw (c.to_le_bytes.ensures ∙ bytes-4 b.duration) at c.put.ensures) (omega arith)
