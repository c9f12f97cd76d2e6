-- Two answers that one statement allows are equal: what hold and release answer, and what they leave of the run.
use Rattle.std.proofs.Common.{◌≡◌, Bool, Result, ap}
use Rattle.sets.proofs.Unique.{one_answer}
use Rattle.refusals.specs.declared.Refusal.{Refusal}
use Rattle.refusals.proofs.Laws.{code-one}
use Rattle.chart.specs.declared.chart.Chart.{Chart}
use Rattle.run.specs.declared.run.Run.{Run}
use Rattle.key.specs.Answer.{Turned, turned_by}
use Rattle.key.specs.Turning.{turn_of}

pub turn-unique : (held : Bool) (c : Chart) (run : Run) (r q : Result Unit Refusal) (f g : Run) → turned_by r f ≡ turn_of held c run → turned_by q g ≡ turn_of held c run → (r ≡ q) × (f ≡ g)
turn-unique held c run r q f g a b =
    let same : turned_by r f ≡ turned_by q g = one_answer a b in
    (code-one r q (ap (λ (t : Turned). t.code) same), ap (λ (t : Turned). t.run) same)
