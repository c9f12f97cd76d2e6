-- What is proved of specs/Pages.antt.
use Rattle.std.specs.Prelude.{ℕ, ◌+◌, ◌*◌, ◌/◌, ◌%◌, ◌≤◌, ◌<◌, Bool, true, false, cond, ◌&&◌, List, [], ◌↔◌, ◌≡◌, refl, length, get_or, ltb}
use Rattle.std.proofs.Math.Bool.{not-eq-not}
use Rattle.std.proofs.Common.{arith, eq-eqb, ne_eqb, lt-ltb, ltb-true}
use Rattle.sets.specs.Sets.{has, insert}
use Rattle.sets.proofs.Counts.{summed-less}
use Rattle.sets.proofs.Loops.{and-true, or-false}
use Rattle.sets.proofs.Members.{has-zero}
use Rattle.chart.specs.declared.chart.Chart.{Chart}
use Rattle.chart.proofs.held.Sound.{sound}
use Rattle.tally.specs.Weighing.{weight, weight_in, weigh_of}
use Rattle.page.specs.Page.{both, is_apart, pair_line, pair_at}
use Rattle.claims.proofs.Added.{tested}
use Rattle.claims.proofs.Moves.{has-insert}
use Rattle.claims.proofs.Sums.{sum-none}
use Rattle.claims.proofs.Weights.{weighed-apart}
use Rattle.claims.specs.Pages.{Shown}

-- ---- what two steps weigh

-- a set with one step more
one_more : (w : ℕ → ℕ) (s k : ℕ) → k < 64 → has s k ≡ false → weight w (insert s k) ≡ weight w s + w k
one_more w s k l out =
    summed-less _ _ 64 k (w k) l
    (λ j m d. rw (has-insert s k j m, ne_eqb j k d, or-false (has s j)))
    (rw (has-insert s k k l, out, eq-eqb k k refl) (omega arith))

-- two steps weigh the sum of their weights
pair_weighs : (weights : List ℕ) (i j : ℕ) → i < j → j < 64 → weight_in weights (both i j) ≡ get_or weights i 0 + get_or weights j 0
unfolding weight_in
pair_weighs weights i j l m =
    let w : ℕ → ℕ = λ k. get_or weights k 0 in
    let none = sum-none (λ k. cond (has 0 k) (w k) 0) 64 (λ k q. rw (has-zero k)) in
    let first = one_more w 0 i (omega arith) (has-zero i) in
    let other : has (insert 0 i) j ≡ false = rw (has-insert 0 i j m, has-zero j, ne_eqb j i (λ z. omega arith)) in
    omega (arith, none, first, one_more w (insert 0 i) j m other)

-- so the page's test is of that sum
test-is : (weights : List ℕ) (i j total : ℕ) → length weights ≤ 64
    → (is_apart i j weights total ≡ true) ↔ ((i < j) × (j < length weights) × (total < get_or weights i 0 + get_or weights j 0))
test-is weights i j total most = (there, λ h. rw (pair_weighs weights i j h.0 (omega arith), lt-ltb _ _ h.0, lt-ltb _ _ h.1, lt-ltb _ _ h.2))
  where
    there : is_apart i j weights total ≡ true → (i < j) × (j < length weights) × (total < get_or weights i 0 + get_or weights j 0)
    there h =
        let x = and-true (ltb i j && ltb j (length weights)) _ h in
        let y = and-true (ltb i j) _ x.0 in
        let l = ltb-true i j y.0 in
        let m = ltb-true j (length weights) y.1 in
        (l, m, rw (pair_weighs weights i j l (omega arith)) at (ltb-true total (weight_in weights (both i j)) x.1))

-- a pair's line by that test
line-is : (weights : List ℕ) (total i j : ℕ) (b : Bool) → j < 64 → is_apart i j weights total ≡ b → pair_at weights total (i * 64 + j) ≡ cond b (pair_line i j weights) []
unfolding pair_at
line-is weights total i j b l e =
    let high : (i * 64 + j) / 64 ≡ i = omega arith in
    let low : (i * 64 + j) % 64 ≡ j = omega arith in
    rw (high, low, e)

-- ---- the theorem

pub shown : (c : Chart) (weights : List ℕ) → (weigh_of c weights).code ≡ 0 → (i j : ℕ) → Shown c weights i j
shown c weights e i j =
    let most = (sound c (tested c weights e).0).limits.steps in
    let long = (tested c weights e).1 in
    let total = (weigh_of c weights).total in
    let is = test-is weights i j total (omega arith) in
    record {
      line = λ h. line-is weights total i j true (omega arith) (is.1 (h.0, omega arith, omega arith));
      none = λ l z. line-is weights total i j false l (not-eq-not.0 (λ h. z ((is.0 h).0, omega (arith, (is.0 h).1), omega (arith, (is.0 h).2))));
      apart = λ h clock lent s xs. weighed-apart c weights e clock lent s xs i j (omega arith) (omega arith) (λ z. omega arith) (omega arith);
    }
