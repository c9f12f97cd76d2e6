-- The length and then the kind.
use native.Mathlib.Omega.{arith}
use Rattle.sets.proofs.Bytes.{put-put}
use Rattle.reader.specs.Numbers.{bytes_of}
use Rattle.writer.proofs.records.put_head.Goals as goal

pub returns : goal.returns
returns c =
    let a = c.args in
    put-put a.bytes.now a.at (bytes_of 2 a.size) (bytes_of 2 a.kind) (rw c.to_le_bytes.ensures at c.put-next.ensures) (rw c.to_le_bytes-2.ensures at c.put.ensures) (omega arith)
