-- Laws of sums over the numbers below n.
use Rattle.std.specs.Prelude.{ℕ, zero, suc, ◌+◌, ◌≤◌, ◌<◌, ◌≡◌, refl}
use Rattle.std.proofs.Common.{⊎_elim, sym, ap, ◌∙◌, eq-or-lt_of_le, le_of_suc-le-suc, arith}
use Rattle.sets.specs.Loops.{summed}

-- terms that are sums of two
pub sum-split : (c a b : ℕ → ℕ) (n : ℕ) → ((k : ℕ) → k < n → c k ≡ a k + b k) → summed c n ≡ summed a n + summed b n
unfolding summed
sum-split c a b zero h = refl
sum-split c a b (suc n) h = omega (arith, sum-split c a b n (λ k l. h k (omega arith)), h n (omega arith))

-- zeros come to 0
pub sum-none : (f : ℕ → ℕ) (n : ℕ) → ((k : ℕ) → k < n → f k ≡ 0) → summed f n ≡ 0
unfolding summed
sum-none f zero h = refl
sum-none f (suc n) h = omega (arith, sum-none f n (λ k l. h k (omega arith)), h n (omega arith))

-- one term is no more than all
one-in-sum : (f : ℕ → ℕ) (n i : ℕ) → i < n → f i ≤ summed f n
unfolding summed
one-in-sum f zero i h = absurd (omega arith)
one-in-sum f (suc n) i h =
    ⊎_elim (λ (e : i ≡ n). omega (arith, ap f e)) (λ (l : i < n). omega (arith, one-in-sum f n i l)) (eq-or-lt_of_le (le_of_suc-le-suc h))

-- two different terms come to no more than all
pub two-in-sum : (f : ℕ → ℕ) (n i j : ℕ) → i < n → j < n → (i ≡ j → ⊥) → f i + f j ≤ summed f n
unfolding summed
two-in-sum f zero i j h k d = absurd (omega arith)
two-in-sum f (suc n) i j h k d =
    ⊎_elim
    (λ (e : i ≡ n). ⊎_elim (λ (g : j ≡ n). absurd (d (e ∙ sym g))) (λ (l : j < n). omega (arith, ap f e, one-in-sum f n j l)) (eq-or-lt_of_le (le_of_suc-le-suc k)))
    (λ (m : i < n). ⊎_elim (λ (g : j ≡ n). omega (arith, ap f g, one-in-sum f n i m)) (λ (l : j < n). omega (arith, two-in-sum f n i j m l d)) (eq-or-lt_of_le (le_of_suc-le-suc k)))
    (eq-or-lt_of_le (le_of_suc-le-suc h))
