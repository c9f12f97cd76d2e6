-- Two answers that one statement allows are equal, for the public function: the length, and the lent buffer with it.
use Prim.Native.Nat.{ℕ, ◌≤◌}
use mathlib.Core.List.{List}
use mathlib.Core.Path.{◌≡◌}
use lib.ListN.{length}
use Rattle.sets.proofs.Unique.{one_answer}
use Rattle.lines.specs.Lines.{Puts}
use Rattle.page.specs.Page.{page_line}
use Rattle.page.specs.Answer.{Heard}

pub page-line-unique : (heard : Heard) (n : ℕ) (sources targets : List ℕ) (initial : ℕ) (weights : List ℕ) (k : ℕ) (line f g : List ℕ) (r q : ℕ)
    → Puts 512 line 0 (page_line heard n sources targets initial weights k) f r × (r ≤ length line)
    → Puts 512 line 0 (page_line heard n sources targets initial weights k) g q × (q ≤ length line) → (r ≡ q) × (f ≡ g)
page-line-unique heard n sources targets initial weights k line f g r q e h = (one_answer e.0.1 h.0.1, one_answer e.0.0 h.0.0)
