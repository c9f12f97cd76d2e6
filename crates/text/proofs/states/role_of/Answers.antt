-- The table of the source is that of specs/Codes.
use Rattle.std.proofs.Common.{refl}
use Rattle.text.specs.Codes.{roles}
use Rattle.text.proofs.states.role_of.Goals as goal

pub returns : goal.returns
unfolding roles
returns c = refl
