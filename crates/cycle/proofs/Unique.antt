-- Two answers that one statement allows are equal, for each public function.
use Rattle.std.proofs.Common.{ℕ, ◌≡◌, List, ℤ, Result, Ok, Err, sym, ap, ap₂}
use Rattle.sets.proofs.Unique.{one_answer}
use Rattle.refusals.specs.declared.Refusal.{Refusal}
use Rattle.refusals.specs.Refusals.{code_of}
use Rattle.refusals.proofs.Laws.{number-some, number-one, code-one}
use Rattle.chart.specs.declared.chart.Chart.{Chart}
use Rattle.run.specs.declared.run.Run.{Run}
use Rattle.cycle.specs.Answer.{Cycled, cycled_as, started_as}
use Rattle.cycle.specs.Calling.{Calls, calls_as}
use Rattle.cycle.specs.Cycling.{ready_by}
use Rattle.cycle.specs.declared.calling.Went.{Went}
use Rattle.cycle.specs.declared.calling.Stopped.{Stopped}
use Rattle.cycle.specs.declared.cycling.Cycle.{Cycle}

pub ready-unique : (c : Chart) (index : List ℕ) (run : Run) (lent : ℕ) (r q : Result Unit Refusal) → code_of r ≡ ready_by c index run lent → code_of q ≡ ready_by c index run lent → r ≡ q
ready-unique c index run lent r q e f = code-one r q (one_answer e f)

-- ---- of answers in one record: what it was made of

pub cycled-one : (r q : Result Cycle Refusal) (s t : Run) → cycled_as r s ≡ cycled_as q t → (r ≡ q) × (s ≡ t)
cycled-one (Ok x) (Ok y) s t e = (ap Ok (ap {B = Cycle} (λ (o : Cycled). record { taken = o.taken; reasons = o.reasons }) e), ap (λ (o : Cycled). o.run) e)
cycled-one (Ok x) (Err f) s t e = absurd (number-some f (sym (ap (λ (o : Cycled). o.code) e)))
cycled-one (Err f) (Ok y) s t e = absurd (number-some f (ap (λ (o : Cycled). o.code) e))
cycled-one (Err f) (Err g) s t e = (ap Err (number-one f g (ap (λ (o : Cycled). o.code) e)), ap (λ (o : Cycled). o.run) e)

pub started-one : (r q : Result Run Refusal) → started_as r ≡ started_as q → r ≡ q
started-one (Ok s) (Ok t) e = ap Ok (ap (λ (o : Cycled). o.run) e)
started-one (Ok s) (Err f) e = absurd (number-some f (sym (ap (λ (o : Cycled). o.code) e)))
started-one (Err f) (Ok t) e = absurd (number-some f (ap (λ (o : Cycled). o.code) e))
started-one (Err f) (Err g) e = ap Err (number-one f g (ap (λ (o : Cycled). o.code) e))

pub calls-one : (r q : Result Went Stopped) (s t : Run) (acts words : List ℕ) (f g : List ℤ) → calls_as r s acts f ≡ calls_as q t words g → (r ≡ q) × (s ≡ t) × (acts ≡ words) × (f ≡ g)
calls-one r q s t acts words f g e = (answer r q e, run r q e, activities r q e, outputs r q e)
  where
    answer : (r q : Result Went Stopped) → calls_as r s acts f ≡ calls_as q t words g → r ≡ q
    answer (Ok x) (Ok y) e = ap Ok (ap {B = Went} (λ (d : Calls). record { accepted = d.accepted; taken = d.taken }) e)
    answer (Ok x) (Err y) e = absurd (number-some y.refusal (sym (ap (λ (d : Calls). d.code) e)))
    answer (Err x) (Ok y) e = absurd (number-some x.refusal (ap (λ (d : Calls). d.code) e))
    answer (Err x) (Err y) e =
        ap Err (ap₂ {C = Stopped} (λ (n : Refusal) (k : ℕ). record { refusal = n; accepted = k }) (number-one x.refusal y.refusal (ap (λ (d : Calls). d.code) e)) (ap (λ (d : Calls). d.accepted) e))

    run : (r q : Result Went Stopped) → calls_as r s acts f ≡ calls_as q t words g → s ≡ t
    run (Ok x) (Ok y) e = ap (λ (d : Calls). d.run) e
    run (Ok x) (Err y) e = ap (λ (d : Calls). d.run) e
    run (Err x) (Ok y) e = ap (λ (d : Calls). d.run) e
    run (Err x) (Err y) e = ap (λ (d : Calls). d.run) e

    activities : (r q : Result Went Stopped) → calls_as r s acts f ≡ calls_as q t words g → acts ≡ words
    activities (Ok x) (Ok y) e = ap (λ (d : Calls). d.activities) e
    activities (Ok x) (Err y) e = ap (λ (d : Calls). d.activities) e
    activities (Err x) (Ok y) e = ap (λ (d : Calls). d.activities) e
    activities (Err x) (Err y) e = ap (λ (d : Calls). d.activities) e

    outputs : (r q : Result Went Stopped) → calls_as r s acts f ≡ calls_as q t words g → f ≡ g
    outputs (Ok x) (Ok y) e = ap (λ (d : Calls). d.outputs) e
    outputs (Ok x) (Err y) e = ap (λ (d : Calls). d.outputs) e
    outputs (Err x) (Ok y) e = ap (λ (d : Calls). d.outputs) e
    outputs (Err x) (Err y) e = ap (λ (d : Calls). d.outputs) e
