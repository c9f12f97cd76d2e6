-- The head and then the fields.
use mathlib.Core.List.{[], ◌∷◌}
use mathlib.Core.Path.{◌∙◌}
use native.Mathlib.Omega.{arith}
use Rattle.sets.proofs.Bytes.{put-put, put_five}
use Rattle.reader.specs.Numbers.{bytes_of}
use Rattle.reader.specs.Framing.{record_bytes}
use Rattle.writer.proofs.records.Laws.{bytes-4, bytes-8}
use Rattle.writer.proofs.records.put_transition.Goals as goal

pub returns : goal.returns
returns c =
    let a = c.args in
    let t = a.transition in
    put-put a.bytes.now a.at (record_bytes 3 (t.sources ∷ t.targets ∷ t.on ∷ t.off ∷ [])) (bytes_of 4 t.wait)
    (put_five a.bytes.now a.at (record_bytes 3 []) (bytes_of 8 t.sources) (bytes_of 8 t.targets) (bytes_of 8 t.on) (bytes_of 8 t.off)
    c.put_head-body.ensures
    (rw (c.to_le_bytes.ensures ∙ bytes-8 t.sources) at c.put-second.ensures)
    (rw (c.to_le_bytes-2.ensures ∙ bytes-8 t.targets) at c.put-third.ensures)
    (rw (c.to_le_bytes-3.ensures ∙ bytes-8 t.on) at c.put-fourth.ensures)
    (rw (c.to_le_bytes-4.ensures ∙ bytes-8 t.off) at c.put-last.ensures)
    (omega arith))
    (rw (c.to_le_bytes-5.ensures ∙ bytes-4 t.wait) at c.put.ensures) (omega arith)
