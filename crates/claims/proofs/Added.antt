-- What is proved of specs/Added.antt.
use Rattle.std.specs.Prelude.{ℕ, zero, suc, ◌+◌, ◌-◌, ◌≤◌, ◌<◌, Bool, true, false, cond, List, ◌↔◌, ◌⊎◌, ◌≡◌, refl, length, get_or, replicate, eqb, leb, ltb}
use Rattle.std.proofs.Common.{true≢false, inl, inr, ap, ap₂, ◌∙◌, add-sub_cancel, arith, below_none, below_more}
use Rattle.std.proofs.Math.Bool.{not-eq-not}
use Rattle.std.proofs.Math.Path.{sym}
use Rattle.std.proofs.lemmas.List.{length-replicate, get_or-replicate}
use Rattle.std.proofs.Math.ListN.{get_or-eq_default}
use borrow.Author.Tests.{eq-eqb, ne_eqb, eqb-true, eqb-false, leb-true, leb-false, ltb-true, ltb-false}
use Rattle.sets.specs.Loops.{or_else, first_code}
use Rattle.sets.specs.Sets.{has}
use Rattle.sets.proofs.Loops.{bool_eq, else-zero, first_found, first-same, length-table, get_or-table, is-table}
use Rattle.fields.specs.Fields.{unless}
use Rattle.chart.specs.Held.{chart_code}
use Rattle.chart.specs.declared.chart.Chart.{Chart}
use Rattle.tally.specs.Weighing.{weight, weight_in, weigh_of}
use Rattle.adding.specs.Adding.{sum_at, sums, unfit, are_long, added_as, add_of, sum_of}
use Rattle.adding.specs.Answer.{Added}
use Rattle.claims.proofs.Numbers.{first-none, weigh-code, all-balanced}
use Rattle.claims.proofs.Sums.{sum-split}
use Rattle.claims.proofs.Tests.{weigh-accepted, fits, too_large, long}
use Rattle.claims.specs.Weights.{Balanced, initial_weight}
use Rattle.claims.proofs.Weights.{unless-none, weighed}
use Rattle.claims.specs.Added.{Lengths, Fitting, Answered, by-chart, by-none, by-step, by_lengths}

-- where they are, the test says so, and where they are not
pub are-long : (n first second lent : ℕ) → Lengths n first second lent → are_long n first second lent ≡ true
are-long n first second lent l = rw (eq-eqb first n l.0, eq-eqb second n l.1, eq-eqb lent n l.2)

pub not-long : (n first second lent : ℕ) → (Lengths n first second lent → ⊥) → are_long n first second lent ≡ false
not-long n first second lent z = not-eq-not.0 (λ e. z (long n first second lent e))

-- where all sums fit, no step is found
pub all_fit : (n : ℕ) (a b : List ℕ) → Fitting (sum_at a b) n → unfit n a b ≡ 0
unfolding unfit
all_fit n a b f = first-none _ n (λ j l. fits a b j (f j l))

-- the first whose sum doesn't is found
pub first-unfit : (n : ℕ) (a b : List ℕ) (k : ℕ) → k < n → Fitting (sum_at a b) k → 65535 < sum_at a b k → unfit n a b ≡ k + 1
unfolding unfit
first-unfit n a b k l f o = sym (first_found _ k n (k + 1) (all_fit k a b f) l (too_large a b k o) (λ z. omega arith))

-- what is found: 0, or one more than where the first number below n is that doesn't fit
data First (s : ℕ → ℕ) (n : ℕ) : ℕ → Type 0 where
  none : Fitting s n → First s n 0
  at : (k : ℕ) → k < n → Fitting s k → 65535 < s k → First s n (k + 1)

-- by `unfit`, of any numbers
first : (s : ℕ → ℕ) (n : ℕ) → First s n (first_code (λ k. unless (leb (s k) 65535) (k + 1)) n)
unfolding first_code
first s zero = none (below_none (λ j. s j ≤ 65535))
first s (suc n) = go (leb (s n) 65535) refl _ (first s n)
  where
    go : (b : Bool) → leb (s n) 65535 ≡ b → (m : ℕ) → First s n m → First s (suc n) (or_else m (unless b (n + 1)))
    go b e _ (at k l f o) = rw (ne_eqb (k + 1) 0 (λ z. omega arith)) (at k (omega arith) f o)
    go true e _ (none f) = none (λ j l. below_more (λ j. s j ≤ 65535) n f (leb-true _ _ e) j (omega arith))
    go false e _ (none f) = at n (omega arith) f (leb-false _ _ e)

pub answered : (c : Chart) (a b : List ℕ) (lent : ℕ) → Answered c a b lent (add_of c a b lent)
unfolding unfit
answered c a b lent = go (eqb (chart_code c) 0) refl (are_long c.steps (length a) (length b) lent) refl _ (first (sum_at a b) c.steps)
  where
    go : (x : Bool) → eqb (chart_code c) 0 ≡ x → (y : Bool) → are_long c.steps (length a) (length b) lent ≡ y → (u : ℕ) → First (sum_at a b) c.steps u
        → Answered c a b lent (cond x (cond y (cond (eqb u 0) (added_as 0 0) (added_as 21 (u - 1))) (added_as 13 0)) (added_as (chart_code c) 0))
    go false e y l u f = by-chart (eqb-false _ 0 e)
    go true e false l u f = by_lengths (eqb-true _ 0 e) (λ z. true≢false (sym (are-long _ _ _ lent z) ∙ l))
    go true e true l _ (none f) = by-none (eqb-true _ 0 e) (long _ _ _ lent l) f
    go true e true l _ (at k q f o) = rw (ne_eqb (k + 1) 0 (λ z. omega arith), add-sub_cancel) (by-step (eqb-true _ 0 e) (long _ _ _ lent l) k q f o)

-- equal answers have one number
pub number : {r s : Added} → r ≡ s → r.code ≡ s.code
number = ap (λ (r : Added). r.code)

-- an accepted addition has passed each test
pub passed : (c : Chart) (a b : List ℕ) (lent : ℕ) → (add_of c a b lent).code ≡ 0
    → (chart_code c ≡ 0) × Lengths c.steps (length a) (length b) lent × Fitting (sum_at a b) c.steps
passed c a b lent = go _ (answered c a b lent)
  where
    go : (r : Added) → Answered c a b lent r → r.code ≡ 0 → (chart_code c ≡ 0) × Lengths c.steps (length a) (length b) lent × Fitting (sum_at a b) c.steps
    go _ (by-chart z) e = absurd (z e)
    go _ (by_lengths h z) e = absurd (omega arith)
    go _ (by-step h l k m f o) e = absurd (omega arith)
    go _ (by-none h l f) e = (h, l, f)

-- where an addition is refused at step k, one whose sums are no less is refused there or before
pub no_less : (c : Chart) (a b d e : List ℕ) (lent other k : ℕ) → chart_code c ≡ 0
    → (Lengths c.steps (length a) (length b) lent → Lengths c.steps (length d) (length e) other) → ((j : ℕ) → j < c.steps → sum_at a b j ≤ sum_at d e j)
    → add_of c a b lent ≡ added_as 21 k → ((add_of c d e other).code ≡ 21) × ((add_of c d e other).step ≤ k)
no_less c a b d e lent other k h l more = go _ (answered c a b lent) _ (answered c d e other)
  where
    go : (r : Added) → Answered c a b lent r → (s : Added) → Answered c d e other s → r ≡ added_as 21 k → (s.code ≡ 21) × (s.step ≤ k)
    go _ (by-step _ x i m f o) _ (by-step _ _ j q g y) w =
        let late : ¬ (i < j) = λ z. omega (arith, g i z, more i m) in
        (refl, omega (arith, ap (λ (r : Added). r.step) w))
    go _ (by-step _ x i m f o) _ (by-none _ _ g) w = absurd (omega (arith, g i m, more i m))
    go _ (by-step _ x i m f o) _ (by_lengths _ z) w = absurd (z (l x))
    go _ (by-step _ x i m f o) _ (by-chart z) w = absurd (z h)
    go _ (by-chart z) s v w = absurd (z h)
    go _ (by_lengths _ z) s v w = absurd (omega (arith, number w))
    go _ (by-none _ x f) s v w = absurd (omega (arith, number w))

-- ---- the list of sums

-- its length, and its numbers
module _ (n : ℕ) (a b : List ℕ) where
  pub sums-long : length (sums n a b) ≡ n
  unfolding sums
  sums-long = length-table (sum_at a b) n

  pub sums_at : (k : ℕ) → k < n → get_or (sums n a b) k 0 ≡ sum_at a b k
  unfolding sums
  sums_at k l = get_or-table (sum_at a b) n k 0 l

-- an accepted addition writes it
pub listed : (c : Chart) (a b sum : List ℕ) → (add_of c a b (length sum)).code ≡ 0 → sum_of c a b sum ≡ sums c.steps a b
listed c a b sum e = rw (eq-eqb (add_of c a b (length sum)).code 0 e)

-- where the lengths of two additions are right or wrong together and the sums agree step by step, the answers and the lists are the same
pub agree : (c : Chart) (a b d e sum : List ℕ)
    → (Lengths c.steps (length a) (length b) (length sum) ↔ Lengths c.steps (length d) (length e) (length sum))
    → ((k : ℕ) → k < c.steps → sum_at a b k ≡ sum_at d e k)
    → (add_of c a b (length sum) ≡ add_of c d e (length sum)) × (sum_of c a b sum ≡ sum_of c d e sum)
unfolding unfit sums
agree c a b d e sum l same = (rw (lengths, above), rw (lengths, above, lists))
  where
    lengths : are_long c.steps (length a) (length b) (length sum) ≡ are_long c.steps (length d) (length e) (length sum)
    lengths = bool_eq _ _ (λ q. are-long _ _ _ _ (l.0 (long _ _ _ _ q))) (λ q. are-long _ _ _ _ (l.1 (long _ _ _ _ q)))

    above : unfit c.steps a b ≡ unfit c.steps d e
    above = first-same _ _ c.steps (λ k m. ap (λ (x : ℕ). unless (leb x 65535) (k + 1)) (same k m))

    lists : sums c.steps a b ≡ sums c.steps d e
    lists = is-table (sum_at d e) c.steps _ 0 (sums-long c.steps a b) (λ k m. sums_at c.steps a b k m ∙ same k m)

-- zeros added change nothing
pub sums-zero : (n : ℕ) (a : List ℕ) → length a ≡ n → sums n a (replicate n 0) ≡ a
unfolding sums
sums-zero n a l = sym (is-table (sum_at a (replicate n 0)) n a 0 l (λ k m. omega (arith, get_or-replicate {A = ℕ} n k 0 0 m)))

-- ---- what a sum weighs

-- what stands at k in a list of weights, 0 beyond it
abbrev of : List ℕ → ℕ → ℕ
of weights k = get_or weights k 0

-- the sum of what the two weigh
sums-weigh : (n : ℕ) (a b : List ℕ) → length a ≡ n → length b ≡ n → (s : ℕ) → weight (of (sums n a b)) s ≡ weight (of a) s + weight (of b) s
sums-weigh n a b la lb s = sum-split _ _ _ 64 (λ k l. rw (either k (ltb k n) refl) (part (has s k) (of a k) (of b k)))
  where
    -- beyond the lists there are zeros
    either : (k : ℕ) (t : Bool) → ltb k n ≡ t → of (sums n a b) k ≡ sum_at a b k
    either k true e = sums_at n a b k (ltb-true k n e)
    either k false e =
        let l = ltb-false k n e in
        let long = sums-long n a b in
        let none : (w : List ℕ) → length w ≡ n → of w k ≡ 0 = λ w q. get_or-eq_default w 0 (omega arith) in
        omega (arith, none a la, none b lb, none (sums n a b) long)

    -- a step of the set adds both weights, another none
    part : (t : Bool) (x y : ℕ) → cond t (x + y) 0 ≡ cond t x 0 + cond t y 0
    part true x y = refl
    part false x y = refl

-- so zeros weigh nothing
zeros-weigh : (n s : ℕ) → weight (of (replicate n 0)) s ≡ 0
zeros-weigh n s =
    let zeros : List ℕ = replicate n 0 in
    let l : length zeros ≡ n = length-replicate n 0 in
    omega (arith, sums-weigh n zeros zeros l l s, ap (λ (w : List ℕ). weight (of w) s) (sums-zero n zeros l))

module _ (c : Chart) (weights : List ℕ) where
  -- weights that the weighing accepts have passed its first two tests
  pub tested : (weigh_of c weights).code ≡ 0 → (chart_code c ≡ 0) × (length weights ≡ c.steps)
  tested h =
      let b = else-zero (chart_code c) _ (sym (weigh-code c weights) ∙ h) in
      (b.0, unless-none (length weights) c.steps 12 (else-zero (unless (eqb (length weights) c.steps) 13) _ b.1).0)

  -- balanced weights that have passed them are accepted, with what the initial steps weigh
  weighs : chart_code c ≡ 0 → length weights ≡ c.steps → Balanced c (of weights) → (total : ℕ) → total ≡ initial_weight c (of weights)
      → weigh_of c weights ≡ record { code = 0; transition = 0; total = total }
  unfolding weight_in
  weighs e l h total q = weigh-accepted c weights e l (all-balanced c weights (λ t k. eq-eqb _ _ (h t k))) ∙ rw q

-- a sum of two that are accepted is accepted, with both totals
pub sums-weighed : (c : Chart) (a b : List ℕ) → (weigh_of c a).code ≡ 0 → (weigh_of c b).code ≡ 0
    → weigh_of c (sums c.steps a b) ≡ record { code = 0; transition = 0; total = (weigh_of c a).total + (weigh_of c b).total }
sums-weighed c a b e f =
    let x = weighed c a e in
    let y = weighed c b f in
    let both = sums-weigh c.steps a b (tested c a e).1 (tested c b f).1 in
    weighs c (sums c.steps a b) (tested c a e).0 (sums-long c.steps a b) (λ t l. both _ ∙ ap₂ ◌+◌ (x.0 t l) (y.0 t l) ∙ sym (both _)) _
    (ap₂ ◌+◌ x.1 y.1 ∙ sym (both _))

-- as many zeros as there are steps are accepted, with total 0
pub zeros-weighed : (c : Chart) → chart_code c ≡ 0 → weigh_of c (replicate c.steps 0) ≡ record { code = 0; transition = 0; total = 0 }
zeros-weighed c e =
    let none = zeros-weigh c.steps in
    weighs c (replicate c.steps 0) e (length-replicate c.steps 0) (λ t l. none _ ∙ sym (none _)) 0 (sym (none _))

-- of a larger sum one part is larger
pub part-more : (a b x y : ℕ) → a + b < x + y → (a < x) ⊎ (b < y)
part-more a b x y h = go (ltb a x) refl
  where
    go : (t : Bool) → ltb a x ≡ t → (a < x) ⊎ (b < y)
    go true e = inl (ltb-true a x e)
    go false e = inr (omega (arith, ltb-false a x e))
