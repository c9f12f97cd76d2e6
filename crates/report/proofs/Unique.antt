-- Two answers that one statement allows are equal, for each public function.
use Prim.Native.Nat.{ℕ, ◌≤◌}
use mathlib.Core.List.{List}
use mathlib.Core.Path.{◌≡◌}
use lib.ListN.{length}
use Rattle.sets.proofs.Unique.{one_answer}
use Rattle.chart.specs.declared.chart.Chart.{Chart}
use Rattle.report.specs.Printing.{opening, printed_of, line_after}
use Rattle.report.specs.declared.printing.Standing.{Standing}
use Rattle.report.specs.Answer.{Printed}

pub opening-unique : (r q : Standing) → r ≡ opening → q ≡ opening → r ≡ q
opening-unique r q = one_answer

-- the answer, and the lent buffer with it
pub print-next-unique : (code : ℕ) (c : Chart) (s : List ℕ) (st : Standing) (line f g : List ℕ) (r q : Printed)
    → (r ≡ printed_of (length line) code c s st) × (f ≡ line_after code c s st line) × (r.length ≤ length line)
    → (q ≡ printed_of (length line) code c s st) × (g ≡ line_after code c s st line) × (q.length ≤ length line) → (r ≡ q) × (f ≡ g)
print-next-unique code c s st line f g r q e h = (one_answer e.0 h.0, one_answer e.1 h.1)
