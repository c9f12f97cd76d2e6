-- What the tally, the weighing and the addition answer by what their tests find, in their order.
use Rattle.std.proofs.Common.{ℕ, ◌+◌, ◌-◌, ◌≡◌, ◌≤◌, ◌<◌, true, List, length, arith, le-leb, eq-eqb, ne_eqb}
use Rattle.std.proofs.lemmas.Bool.{lt-leb}
use borrow.Author.Tests.{eqb-true}
use lib.Dec.{eqb}
use Rattle.sets.proofs.Loops.{and-true}
use Rattle.fields.specs.Fields.{unless}
use Rattle.chart.specs.Held.{chart_code}
use Rattle.chart.specs.declared.chart.Chart.{Chart}
use Rattle.run.specs.Belongs.{belongs}
use Rattle.run.specs.declared.run.Run.{Run}
use Rattle.tally.specs.Tallying.{counts_of, tally_of}
use Rattle.tally.specs.Weighing.{unbalanced_in, refused, weighed, weigh_of}
use Rattle.adding.specs.Adding.{sum_at, fits_at, are_long}

pub tally-accepted : (c : Chart) (r : Run) → chart_code c ≡ 0 → belongs c r ≡ true → tally_of c r ≡ counts_of c.cases r.good r.bad
tally-accepted c r e f = rw (e, f)

module _ (c : Chart) (weights : List ℕ) (e : chart_code c ≡ 0) where
  pub weights-refused : (length weights ≡ c.steps → ⊥) → weigh_of c weights ≡ refused 13 0
  weights-refused z = rw (e, ne_eqb _ _ z)

  pub balance-refused : length weights ≡ c.steps → (t : ℕ) → unbalanced_in c weights ≡ t + 1 → weigh_of c weights ≡ refused 14 t
  balance-refused l t f =
      let back : t + 1 - 1 ≡ t = omega arith in
      rw (e, eq-eqb _ _ l, f, ne_eqb (t + 1) 0 (λ z. omega arith), back)

  pub weigh-accepted : length weights ≡ c.steps → unbalanced_in c weights ≡ 0 → weigh_of c weights ≡ weighed c weights
  weigh-accepted l f = rw (e, eq-eqb _ _ l, f)

-- a sum that fits has no number, and another the step's, and one more
module _ (first second : List ℕ) (k : ℕ) where
  pub fits : sum_at first second k ≤ 65535 → unless (fits_at first second k) (k + 1) ≡ 0
  fits h = rw (le-leb _ 65535 h)

  pub too_large : 65535 < sum_at first second k → k + 1 ≡ unless (fits_at first second k) (k + 1)
  too_large h = rw (lt-leb _ 65535 h)

-- what the test of the three lengths tells
pub long : (n first second lent : ℕ) → are_long n first second lent ≡ true → (first ≡ n) × (second ≡ n) × (lent ≡ n)
long n first second lent h =
    let a = and-true _ (eqb lent n) h in
    let b = and-true (eqb first n) _ a.0 in
    (eqb-true first n b.0, eqb-true second n b.1, eqb-true lent n a.1)
