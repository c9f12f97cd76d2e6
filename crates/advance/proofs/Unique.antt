-- Two answers that the statement allows are equal, with all that they leave.
use Rattle.std.proofs.Common.{List, ◌≡◌, ℤ}
use Rattle.sets.proofs.Unique.{one_answer}
use Rattle.cycle.specs.Answer.{Cycled}
use Rattle.calls.specs.Lent.{Left, left}

pub advance-unique : (o : Cycled × List ℤ) (r q : Left) → r ≡ left o → q ≡ left o → r ≡ q
advance-unique o r q = one_answer
