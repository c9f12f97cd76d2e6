-- Two answers that one statement allows are equal, for each public function, and for the entry in other languages: the number, the step, and what is lent.
use Rattle.std.proofs.Common.{ℕ, List, length, Result, Ok, Err, ◌≡◌, refl, sym, ap, arith}
use Rattle.sets.proofs.Unique.{one_answer}
use Rattle.refusals.specs.declared.Refusal.{Refusal}
use Rattle.refusals.proofs.Laws.{number-some, number-one}
use Rattle.chart.specs.Held.{chart_code}
use Rattle.chart.specs.declared.chart.Chart.{Chart}
use Rattle.adding.specs.Adding.{added_as, added_after, sum_after, add_of, sum_of}
use Rattle.adding.specs.Answer.{Added, added_from, which}
use Rattle.adding.specs.declared.adding.Unadded.{Unadded}
use Rattle.adding.specs.declared.adding.Unadded.TheVariants.{Refused, TooLarge}

apart : {A : Type 0} (n : ℕ) → n ≡ 0 → n ≡ 21 → A
apart n z t = absurd (omega arith)

-- no two answers are one
added-one : (held : ℕ) (r q : Result (Unit {0}) Unadded) → added_from r ≡ added_from q → which held r → which held q → r ≡ q
added-one held (Ok x) (Ok y) e v w = refl
added-one held (Ok x) (Err (Refused d)) e v w = absurd (number-some d (sym (ap (λ (a : Added). a.code) e)))
added-one held (Ok x) (Err (TooLarge j)) e v w = apart 0 refl (ap (λ (a : Added). a.code) e)
added-one held (Err (Refused d)) (Ok y) e v w = absurd (number-some d (ap (λ (a : Added). a.code) e))
added-one held (Err (Refused d)) (Err (Refused f)) e v w = ap (λ (x : Refusal). Err (Refused x)) (number-one d f (ap (λ (a : Added). a.code) e))
added-one held (Err (Refused d)) (Err (TooLarge j)) e v w = apart held w (v (ap (λ (a : Added). a.code) e))
added-one held (Err (TooLarge j)) (Ok y) e v w = apart 21 (ap (λ (a : Added). a.code) e) refl
added-one held (Err (TooLarge j)) (Err (Refused d)) e v w = apart held v (w (sym (ap (λ (a : Added). a.code) e)))
added-one held (Err (TooLarge j)) (Err (TooLarge k)) e v w = ap (λ (x : ℕ). Err (TooLarge x)) (ap (λ (a : Added). a.step) e)

pub add-steps-unique : (n : ℕ) (first second sum f g : List ℕ) (r q : Result (Unit {0}) Unadded)
    → (added_from r ≡ added_after 0 n first second (length sum)) × (f ≡ sum_after 0 n first second sum) × which 0 r
    → (added_from q ≡ added_after 0 n first second (length sum)) × (g ≡ sum_after 0 n first second sum) × which 0 q → (r ≡ q) × (f ≡ g)
add-steps-unique n first second sum f g r q e h = (added-one 0 r q (one_answer e.0 h.0) e.2 h.2, one_answer e.1 h.1)

pub add-unique : (c : Chart) (first second sum f g : List ℕ) (r q : Result (Unit {0}) Unadded)
    → (added_from r ≡ add_of c first second (length sum)) × (f ≡ sum_of c first second sum) × which (chart_code c) r
    → (added_from q ≡ add_of c first second (length sum)) × (g ≡ sum_of c first second sum) × which (chart_code c) q → (r ≡ q) × (f ≡ g)
add-unique c first second sum f g r q e h = (added-one (chart_code c) r q (one_answer e.0 h.0) e.2 h.2, one_answer e.1 h.1)

pub tolwaziho-add-unique : (held n : ℕ) (first second sum f g : List ℕ) (r q step place : ℕ)
    → (added_as r step ≡ added_after held n first second (length sum)) × (f ≡ sum_after held n first second sum)
    → (added_as q place ≡ added_after held n first second (length sum)) × (g ≡ sum_after held n first second sum)
    → (r ≡ q) × (step ≡ place) × (f ≡ g)
tolwaziho-add-unique held n first second sum f g r q step place e h =
    let same : added_as r step ≡ added_as q place = one_answer e.0 h.0 in
    (ap (λ (x : Added). x.code) same, ap (λ (x : Added). x.step) same, one_answer e.1 h.1)
