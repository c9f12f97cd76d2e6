-- Two answers that one statement allows are equal, for each public function.
use Rattle.std.proofs.Common.{ℕ, ◌≡◌, List, Result, Ok, Err, refl, sym, ap, arith}
use Rattle.sets.proofs.Unique.{one_answer}
use Rattle.refusals.specs.declared.Refusal.{Refusal}
use Rattle.refusals.proofs.Laws.{number-some, number-one}
use Rattle.chart.specs.declared.chart.Chart.{Chart}
use Rattle.run.specs.declared.run.Run.{Run}
use Rattle.tally.specs.Answer.{Tallied, Weighed, tallied_of, weighed_of, names_14}
use Rattle.tally.specs.Tallying.{tally_of}
use Rattle.tally.specs.Weighing.{weight_in, weigh_of}
use Rattle.tally.specs.declared.answer.Tally.{Tally}
use Rattle.tally.specs.declared.answer.Unweighed.{Unweighed}
use Rattle.tally.specs.declared.answer.Unweighed.TheVariants.{Refused, Unbalanced}

abbrev counted : Tallied → Tally
counted t = record { passed = t.passed; failed = t.failed; notrun = t.notrun }

tallied-one : (r q : Result Tally Refusal) → tallied_of r ≡ tallied_of q → r ≡ q
tallied-one (Ok x) (Ok y) h = ap Ok (ap counted h)
tallied-one (Ok x) (Err e) h = absurd (number-some e (sym (ap (λ (t : Tallied). t.code) h)))
tallied-one (Err e) (Ok y) h = absurd (number-some e (ap (λ (t : Tallied). t.code) h))
tallied-one (Err e) (Err f) h = ap Err (number-one e f (ap (λ (t : Tallied). t.code) h))

pub tally-unique : (c : Chart) (run : Run) (r q : Result Tally Refusal) → tallied_of r ≡ tally_of c run → tallied_of q ≡ tally_of c run → r ≡ q
tally-unique c run r q e f = tallied-one r q (one_answer e f)

apart : {A : Type 0} (n : ℕ) → n ≡ 0 → n ≡ 14 → A
apart n z t = absurd (omega arith)

weighed-one : (r q : Result ℕ Unweighed) → weighed_of r ≡ weighed_of q → names_14 r → names_14 q → r ≡ q
weighed-one (Ok x) (Ok y) h v w = ap Ok (ap (λ (a : Weighed). a.total) h)
weighed-one (Ok x) (Err (Refused e)) h v w = absurd (number-some e (sym (ap (λ (a : Weighed). a.code) h)))
weighed-one (Ok x) (Err (Unbalanced t)) h v w = apart 0 refl (ap (λ (a : Weighed). a.code) h)
weighed-one (Err (Refused e)) (Ok y) h v w = absurd (number-some e (ap (λ (a : Weighed). a.code) h))
weighed-one (Err (Refused e)) (Err (Refused f)) h v w = ap (λ (x : Refusal). Err (Refused x)) (number-one e f (ap (λ (a : Weighed). a.code) h))
weighed-one (Err (Refused e)) (Err (Unbalanced t)) h v w = absurd (v (ap (λ (a : Weighed). a.code) h))
weighed-one (Err (Unbalanced t)) (Ok y) h v w = apart 14 (ap (λ (a : Weighed). a.code) h) refl
weighed-one (Err (Unbalanced t)) (Err (Refused f)) h v w = absurd (w (sym (ap (λ (a : Weighed). a.code) h)))
weighed-one (Err (Unbalanced t)) (Err (Unbalanced u)) h v w = ap (λ (x : ℕ). Err (Unbalanced x)) (ap (λ (a : Weighed). a.transition) h)

pub weigh-unique : (c : Chart) (weights : List ℕ) (r q : Result ℕ Unweighed) → (weighed_of r ≡ weigh_of c weights) × names_14 r → (weighed_of q ≡ weigh_of c weights) × names_14 q → r ≡ q
weigh-unique c weights r q e f = weighed-one r q (one_answer e.0 f.0) e.1 f.1

pub weight-in-unique : (set : ℕ) (weights : List ℕ) (r q : ℕ) → r ≡ weight_in weights set → q ≡ weight_in weights set → r ≡ q
weight-in-unique set weights r q = one_answer
