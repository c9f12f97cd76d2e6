-- The sum over a list of weights, the first unbalanced transition, and a chart that is refused.
use Rattle.std.proofs.Common.{ℕ, suc, ◌≡◌, ◌+◌, ◌≤◌, min, Bool, true, false, cond, List, length, get_or, Result, Ok, Err, refl, sym, ap, ◌∙◌, arith}
use Rattle.std.specs.Result.{IsErrAnd}
use borrow.Author.Tests.{eq-eqb, ne_eqb}
use lib.ListN.{get_or-eq_default}
use Rattle.sets.specs.Loops.{summed}
use Rattle.sets.specs.Sets.{has}
use Rattle.sets.proofs.Counts.{summed_turn}
use Rattle.sets.proofs.Loops.{capped}
use Rattle.refusals.specs.declared.Refusal.{Refusal}
use Rattle.refusals.specs.Refusals.{number}
use Rattle.refusals.proofs.Laws.{number-some}
use Rattle.fields.specs.Fields.{unless}
use Rattle.chart.specs.Held.{chart_code}
use Rattle.chart.specs.declared.chart.Chart.{Chart}
use Rattle.chart.proofs.held.Each.{chart-most}
use Rattle.tally.specs.Answer.{unweighed_of, weighed_of, names_14}
use Rattle.tally.specs.Weighing.{weight_in, balanced, weigh_of}
use Rattle.tally.specs.declared.answer.Unweighed.{Unweighed}
use Rattle.tally.specs.declared.answer.Unweighed.TheVariants.{Refused, Unbalanced}

-- what step k adds to the weight of the set s
abbrev pub weight_at : List ℕ → ℕ → ℕ → ℕ
weight_at weights s k = cond (has s k) (get_or weights k 0) 0

-- one step more in the sum
pub weight-turn : (weights : List ℕ) (s k : ℕ) {sum next : ℕ} {member : Bool} → sum ≡ summed (weight_at weights s) k → member ≡ has s k → next ≡ sum + cond member (get_or weights k 0) 0 → next ≡ summed (weight_at weights s) (k + 1)
weight-turn weights s k e m h = summed_turn (weight_at weights s) k e (rw (← m) h)

-- nothing is added beyond the list
beyond : (weights : List ℕ) (s k : ℕ) → length weights ≤ k → weight_at weights s k ≡ 0
beyond weights s k l = rw (get_or-eq_default weights 0 l) (either (has s k) 0)
  where
    either : (b : Bool) (n : ℕ) → cond b n n ≡ n
    either true n = refl
    either false n = refl

-- the sum over the list, or over the first 64 of it, is the sum over all 64 steps
pub weight-end : (weights : List ℕ) (s k : ℕ) {sum : ℕ} → sum ≡ summed (weight_at weights s) k → k ≡ min 64 (length weights) → sum ≡ weight_in weights s
unfolding weight_in summed
weight-end weights s k e h = e ∙ rw h (capped (summed (weight_at weights s)) (length weights) 64 (λ j l. more j (beyond weights s j l)))
  where
    more : (j : ℕ) → weight_at weights s j ≡ 0 → summed (weight_at weights s) (suc j) ≡ summed (weight_at weights s) j
    more j z = rw z (omega arith)

-- one more than the number of transition t if it is unbalanced
abbrev pub code_at : List ℕ → List ℕ → List ℕ → ℕ → ℕ
code_at sources targets weights t = unless (balanced weights (get_or sources t 0) (get_or targets t 0)) (t + 1)

module _ (weights : List ℕ) (s t n : ℕ) {a b : ℕ} (e : a ≡ weight_in weights s) (h : b ≡ weight_in weights t) where
  -- equal weights: no number
  pub is-balanced : a ≡ b → unless (balanced weights s t) n ≡ 0
  is-balanced q = rw (eq-eqb _ _ (sym e ∙ q ∙ h))

  -- weights that differ: the number
  pub is-unbalanced : (a ≡ b → ⊥) → n ≡ unless (balanced weights s t) n
  is-unbalanced q = rw (ne_eqb _ _ (λ z. q (e ∙ z ∙ sym h)))

-- ---- a chart that is refused

-- a chart's number is 9 at most, so 14 is the weighing's own
pub chart-refused : (c : Chart) (weights : List ℕ) (r : Result ℕ Unweighed) (e : Refusal) → IsErrAnd r (λ y. y ≡ Refused e) → number e ≡ chart_code c
    → weighed_of r ≡ weigh_of c weights
chart-refused c weights (Ok total) e h f = elim h [ ]
chart-refused c weights (Err y) e h f =
    let n = ne_eqb (chart_code c) 0 (λ q. number-some e (f ∙ q)) in
    let m = chart-most c in
    let k = ne_eqb (chart_code c) 14 (λ q. omega (arith, q, m)) in
    ap unweighed_of h ∙ rw (f, n, n, k)

pub other_kind : (c : Chart) (r : Result ℕ Unweighed) (e : Refusal) → IsErrAnd r (λ y. y ≡ Refused e) → number e ≡ chart_code c → names_14 r
other_kind c (Ok total) e h f = tt
other_kind c (Err (Refused d)) e h f =
    let m = chart-most c in
    let same : number d ≡ chart_code c = rw (← f) (ap (λ (u : Unweighed). (unweighed_of u).code) h) in
    λ n. omega (arith, m, same, n)
other_kind c (Err (Unbalanced t)) e h f = tt
