-- The head and then the field.
use mathlib.Core.List.{[]}
use native.Mathlib.Omega.{arith}
use Rattle.sets.proofs.Bytes.{put-put}
use Rattle.reader.specs.Numbers.{bytes_of}
use Rattle.reader.specs.Framing.{record_bytes}
use Rattle.writer.proofs.records.Laws.{byte}
use Rattle.writer.proofs.records.put_step.Goals as goal

pub returns : goal.returns
returns c =
    let a = c.args in
    put-put a.bytes.now a.at (record_bytes 1 []) (bytes_of 1 a.initial) c.put_head-body.ensures (rw (byte a.initial (omega arith)) c.put.ensures) (omega arith)
