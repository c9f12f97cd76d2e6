-- Two answers that one statement allows are equal, with all that they leave, for each entry.
use Rattle.std.proofs.Common.{List, ◌≡◌, ℤ}
use Rattle.sets.proofs.Unique.{one_answer}
use Rattle.cycle.specs.Answer.{Cycled}
use Rattle.calls.specs.Lent.{Left, left}
use Rattle.shift.specs.Shifting.{Done}
use Rattle.engine.specs.Lent.{ShiftLeft, shift_left}

-- a start and a cycle
pub left_unique : (o : Cycled × List ℤ) (r q : Left) → r ≡ left o → q ≡ left o → r ≡ q
left_unique o r q = one_answer

pub shift-left-unique : (o : Done) (r q : ShiftLeft) → r ≡ shift_left o → q ≡ shift_left o → r ≡ q
shift-left-unique o r q = one_answer
