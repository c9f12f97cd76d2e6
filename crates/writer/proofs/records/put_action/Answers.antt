-- The head and then the fields: a signed number is its bits.
use mathlib.Core.List.{[]}
use mathlib.Core.Path.{◌≡◌, ap, ◌∙◌}
use mir.Syntax.{w32}
use borrow.Author.Rules.{rules}
use mir.Val.{of_z, SFits}
use mir.Facts.{to_z-of_z}
use native.Mathlib.Omega.{arith}
use Rattle.sets.proofs.Bytes.{put_three}
use Rattle.reader.specs.Numbers.{bytes_of}
use Rattle.reader.specs.Framing.{record_bytes}
use Rattle.writer.proofs.records.Laws.{byte, bytes-4}
use Rattle.writer.proofs.records.put_action.Goals as goal

pub returns : goal.returns
returns c =
    let a = c.args in
    let k = a.action in
    let fit : SFits w32 k.value = search rules in
    let signed : c.cast_unsigned.result ≡ of_z w32 k.value = c.cast_unsigned.ensures ∙ ap (of_z w32) (to_z-of_z {w = w32} fit) in
    rw (← signed)
    (put_three a.bytes.now a.at (record_bytes 2 []) (bytes_of 1 k.output) (bytes_of 4 c.cast_unsigned.result)
    c.put_head-body.ensures (rw (byte k.output (omega arith)) c.put-next.ensures) (rw (c.to_le_bytes.ensures ∙ bytes-4 _) at c.put.ensures) (omega arith))
