-- The tables of the source are those of specs/Codes.
use Rattle.std.proofs.Common.{refl}
use Rattle.text.specs.Codes.{columns, nexts}
use Rattle.text.proofs.states.Tables.new.Goals as goal

pub returns : goal.returns
unfolding columns nexts
returns c = (refl, refl)
