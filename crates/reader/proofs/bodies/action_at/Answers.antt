-- The value that was read is the one that is put in: a signed number is its bits, read back.
use Rattle.std.proofs.Common.{get_or, ap, ◌∙◌, w32, to_z}
use mir.Facts.{to_z-of_z}
use borrow.Author.Rules.{sfits_of}
use Rattle.judging.specs.declared.Body.TheVariants.{Action}
use Rattle.reader.proofs.bodies.Laws.{action-fields}
use Rattle.reader.proofs.bodies.action_at.Goals as goal

pub returns : goal.returns
returns c =
    let a = c.args in
    rw (action-fields a.bytes.now a.at)
    (ap (Action (get_or a.bytes.now a.at 0))
    (to_z-of_z {w = w32} (sfits_of c.cast_signed.type_inv) ∙ c.cast_signed.ensures ∙ ap (to_z w32) c.u32_at.ensures))
