-- Document 02's numbers of the reasons (request vi), in their order: "The first in this order counts". "reason 7 of request (vi) is "hold" and comes
-- first" (request vii).
use Rattle.std.specs.Prelude.{ℕ, Option, None, Some}
use Rattle.choice.specs.declared.reasons.Reason.{Reason}
use Rattle.choice.specs.declared.reasons.Reason.TheVariants.{NotActive, Used, Signal, Wait, Occupied, Claimed, Hold}

abbrev pub number : Reason → ℕ
number NotActive = 1
number Used = 2
number Signal = 3
number Wait = 4
number Occupied = 5
number Claimed = 6
number Hold = 7

-- what speaks against a transition, 0 if nothing does
abbrev pub number_of : Option Reason → ℕ
number_of None = 0
number_of (Some r) = number r
