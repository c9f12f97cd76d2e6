-- Two answers that one statement allows are equal, for each public function.
use Rattle.std.proofs.Common.{ℕ, ◌≡◌, List, ℤ, length, Result, sym, ap, ◌∙◌}
use Rattle.sets.proofs.Unique.{one_answer}
use Rattle.refusals.specs.declared.Refusal.{Refusal}
use Rattle.chart.specs.declared.chart.Chart.{Chart}
use Rattle.run.specs.declared.run.Run.{Run}
use Rattle.cycle.specs.Answer.{Cycled, cycled_as, started_as}
use Rattle.cycle.specs.Cycling.{start_of, cycle_of, cycle_by, outputs_after}
use Rattle.cycle.specs.declared.cycling.Cycle.{Cycle}
use Rattle.cycle.proofs.Unique.{cycled-one, started-one}

-- the answer in one record, and the lent outputs with it
both : (c : Chart) (x r q : Cycled) (out f g : List ℤ) → r ≡ x → q ≡ x → f ≡ outputs_after c r out → g ≡ outputs_after c q out → (r ≡ q) × (f ≡ g)
both c x r q out f g e h a b = (one_answer e h, a ∙ ap (λ (o : Cycled). outputs_after c o out) (one_answer e h) ∙ sym b)

pub start-unique : (c : Chart) (clock : ℕ) (r q : Result Run Refusal) (out f g : List ℤ) → started_as r ≡ start_of c clock (length out) → started_as q ≡ start_of c clock (length out)
    → f ≡ outputs_after c (started_as r) out → g ≡ outputs_after c (started_as q) out → (r ≡ q) × (f ≡ g)
start-unique c clock r q out f g e h a b =
    let same = both c (start_of c clock (length out)) (started_as r) (started_as q) out f g e h a b in
    (started-one r q same.0, same.1)

-- the answer, the run that is left, and the outputs
pub cycle-unique : (c : Chart) (run : Run) (clock inputs : ℕ) (r q : Result Cycle Refusal) (s t : Run) (out f g : List ℤ)
    → cycled_as r s ≡ cycle_of c run clock inputs (length out) → cycled_as q t ≡ cycle_of c run clock inputs (length out)
    → f ≡ outputs_after c (cycled_as r s) out → g ≡ outputs_after c (cycled_as q t) out → (r ≡ q) × (s ≡ t) × (f ≡ g)
cycle-unique c run clock inputs r q s t out f g e h a b =
    let same = both c (cycle_of c run clock inputs (length out)) (cycled_as r s) (cycled_as q t) out f g e h a b in
    let apart = cycled-one r q s t same.0 in
    (apart.0, apart.1, same.1)

pub cycle-by-unique : (c : Chart) (index : List ℕ) (run : Run) (clock inputs : ℕ) (r q : Result Cycle Refusal) (s t : Run) (out f g : List ℤ)
    → cycled_as r s ≡ cycle_by c index run clock inputs (length out) → cycled_as q t ≡ cycle_by c index run clock inputs (length out)
    → f ≡ outputs_after c (cycled_as r s) out → g ≡ outputs_after c (cycled_as q t) out → (r ≡ q) × (s ≡ t) × (f ≡ g)
cycle-by-unique c index run clock inputs r q s t out f g e h a b =
    let same = both c (cycle_by c index run clock inputs (length out)) (cycled_as r s) (cycled_as q t) out f g e h a b in
    let apart = cycled-one r q s t same.0 in
    (apart.0, apart.1, same.1)
