-- Two answers that one statement allows are equal, for each public function.
use Rattle.std.proofs.Common.{ℕ, ◌≡◌, List, ℤ, length, Result, Ok, Err, sym, ap, ap₂, ◌∙◌}
use Rattle.refusals.specs.declared.Refusal.{Refusal}
use Rattle.refusals.proofs.Laws.{number-some, number-one}
use Rattle.chart.specs.declared.chart.Chart.{Chart}
use Rattle.run.specs.declared.run.Run.{Run}
use Rattle.cycle.specs.Answer.{Cycled, cycled_as}
use Rattle.cycle.specs.Cycling.{cycle_of, outputs_after}
use Rattle.cycle.specs.declared.cycling.Cycle.{Cycle}
use Rattle.cycle.proofs.Unique.{cycled-one}
use Rattle.calls.proofs.Unique.{cycle-unique}
use Rattle.lent.specs.Advancing.{by_value}

-- the answer, the run that was left, and the lent outputs
pub advance-unique : (c : Chart) (run : Run) (clock inputs : ℕ) (r q : Result Cycle Refusal) (s t : Run) (out f g : List ℤ)
    → cycled_as r s ≡ cycle_of c run clock inputs (length out) → cycled_as q t ≡ cycle_of c run clock inputs (length out)
    → f ≡ outputs_after c (cycled_as r s) out → g ≡ outputs_after c (cycled_as q t) out → (r ≡ q) × (s ≡ t) × (f ≡ g)
advance-unique = cycle-unique

by-value-one : (given : Run) (r q : Result (Cycle × Run) Refusal) → by_value given r ≡ by_value given q → r ≡ q
by-value-one given (Ok (a, s)) (Ok (b, t)) e =
    let same = cycled-one (Ok a) (Ok b) s t e in
    ap₂ {C = Result (Cycle × Run) Refusal} (λ (o : Cycle) (run : Run). Ok (o, run)) (ap {B = Cycle} (λ (o : Cycled). record { taken = o.taken; reasons = o.reasons }) e) same.1
by-value-one given (Ok (a, s)) (Err f) e = absurd (number-some f (sym (ap (λ (o : Cycled). o.code) e)))
by-value-one given (Err f) (Ok (b, t)) e = absurd (number-some f (ap (λ (o : Cycled). o.code) e))
by-value-one given (Err f) (Err g) e = ap Err (number-one f g (ap (λ (o : Cycled). o.code) e))

pub lent-cycle-unique : (c : Chart) (run : Run) (clock inputs : ℕ) (r q : Result (Cycle × Run) Refusal) (out f g : List ℤ)
    → by_value run r ≡ cycle_of c run clock inputs (length out) → by_value run q ≡ cycle_of c run clock inputs (length out)
    → f ≡ outputs_after c (by_value run r) out → g ≡ outputs_after c (by_value run q) out → (r ≡ q) × (f ≡ g)
lent-cycle-unique c run clock inputs r q out f g e h a b =
    let same : by_value run r ≡ by_value run q = e ∙ sym h in
    (by-value-one run r q same, a ∙ ap (λ (o : Cycled). outputs_after c o out) same ∙ sym b)
