-- Counts of members: the machine's count of ones, and what is counted below a bound.
use Prim.Native.Nat.{ℕ, zero, suc, ◌+◌, ◌-◌, ◌*◌, ◌^◌, ◌≤◌, ◌<◌}
use mathlib.Core.Bool.{Bool, true, false, ◌&&◌, not, cond}
use mathlib.Core.Logic.{⊎_elim}
use mathlib.Core.Path.{◌≡◌, refl, sym, ap, ◌∙◌}
use native.Mathlib.Nat.{add_comm, add-zero, add-suc, eq-or-lt_of_le, le_of_suc-le-suc}
use native.Mathlib.Omega.{arith}
use lib.Count.{ones, ones_cat, ones_in}
use lib.Dec.{eqb}
use native.Mathlib.Numerals.{add-one}
use borrow.Author.Tests.{ne_eqb}
use Rattle.sets.specs.Loops.{all, summed, counted}
use Rattle.sets.specs.Sets.{has, collect, Below, size}
use Rattle.sets.proofs.Loops.{and_yes, and_no}
use Rattle.sets.proofs.Below.{below-has}
use Rattle.sets.proofs.Members.{same-members, collect-lt, has-collect}

one-one : ones 1 ≡ 1
unfolding ones ones_in
one-one = refl

ones-collect : (p : ℕ → Bool) (n : ℕ) → ones (collect p n) ≡ counted p n
unfolding collect summed ones ones_in
ones-collect p zero = refl
ones-collect p (suc n) = go (p n) (ones-collect p n)
  where
    go : (b : Bool) → ones (collect p n) ≡ counted p n → ones (collect p n + cond b (2 ^ n) 0) ≡ counted p n + cond b 1 0
    go true e =
        let h : collect p n + 2 ^ n ≡ 1 * 2 ^ n + collect p n = omega arith in
        rw h (ones_cat n 1 (collect p n) (collect-lt p n) ∙ rw (one-one, e) (add_comm 1 (counted p n)))
    go false e = rw (add-zero, add-zero) e

pub ones-size : (s : ℕ) → s < 2 ^ 64 → ones s ≡ size s
ones-size s h =
    ap ones (same-members 64 s (collect (λ k. has s k) 64) h (collect-lt _ 64) (λ k l. sym (has-collect (λ k. has s k) 64 k l))) ∙ ones-collect (λ k. has s k) 64

-- the same numbers are summed
pub summed_same : (f g : ℕ → ℕ) (n : ℕ) → ((k : ℕ) → k < n → f k ≡ g k) → summed f n ≡ summed g n
unfolding summed
summed_same f g zero h = refl
summed_same f g (suc n) h = rw (summed_same f g n (λ k l. h k (omega arith)), h n (omega arith))

-- zeros add nothing
pub summed-more : (f : ℕ → ℕ) (n d : ℕ) → ((k : ℕ) → n ≤ k → k < n + d → f k ≡ 0) → summed f (n + d) ≡ summed f n
unfolding summed
summed-more f n zero h = ap (λ m. summed f m) (add-zero n)
summed-more f n (suc d) h = rw (add-suc, h (n + d) (omega arith) (omega arith), add-zero) (summed-more f n d (λ k a b. h k a (omega arith)))

-- a sum is less by what one of its numbers is less
pub summed-less : (f g : ℕ → ℕ) (n k d : ℕ) → k < n → ((j : ℕ) → j < n → (j ≡ k → ⊥) → f j ≡ g j) → f k ≡ g k + d → summed f n ≡ summed g n + d
unfolding summed
summed-less f g zero k d l h e = absurd (omega arith)
summed-less f g (suc n) k d l h e =
    ⊎_elim (λ q. here q (summed_same f g n (λ j m. h j (omega arith) (λ z. omega arith))))
    (λ m. omega (arith, summed-less f g n k d m (λ j x. h j (omega arith)) e, h n (omega arith) (λ z. omega arith))) (eq-or-lt_of_le (le_of_suc-le-suc l))
  where
    here : k ≡ n → summed f n ≡ summed g n → summed f n + f n ≡ summed g n + g n + d
    here q before = let last : f n ≡ g n + d = rw q at e in omega (arith, before, last)

-- what a loop that sums has in hand
pub summed-start : (f : ℕ → ℕ) → 0 ≡ summed f 0
unfolding summed
summed-start f = refl

pub summed_turn : (f : ℕ → ℕ) (k : ℕ) {now next : ℕ} → now ≡ summed f k → next ≡ now + f k → next ≡ summed f (k + 1)
unfolding summed
summed_turn f k e h = rw (add-one, h, e)

pub counted_same : (p q : ℕ → Bool) (n : ℕ) → ((k : ℕ) → k < n → p k ≡ q k) → counted p n ≡ counted q n
counted_same p q n h = summed_same (λ k. cond (p k) 1 0) (λ k. cond (q k) 1 0) n (λ k l. ap (λ (b : Bool). cond b 1 0) (h k l))

-- p holds of a number or does not
pub counted-not : (p : ℕ → Bool) (n : ℕ) → counted p n + counted (λ k. not (p k)) n ≡ n
unfolding summed
counted-not p zero = refl
counted-not p (suc n) = go (p n) (counted-not p n)
  where
    go : (b : Bool) → counted p n + counted (λ k. not (p k)) n ≡ n → counted p n + cond b 1 0 + (counted (λ k. not (p k)) n + cond (not b) 1 0) ≡ suc n
    go true h = omega arith
    go false h = omega arith

-- p holds of all if those of which it does not are none
pub none-counted : (p : ℕ → Bool) (n : ℕ) → eqb (counted (λ k. not (p k)) n) 0 ≡ all p n
unfolding summed all
none-counted p zero = refl
none-counted p (suc n) = go (p n) (none-counted p n)
  where
    go : (b : Bool) → eqb (counted (λ k. not (p k)) n) 0 ≡ all p n → eqb (counted (λ k. not (p k)) n + cond (not b) 1 0) 0 ≡ (all p n && b)
    go true e = rw add-zero (e ∙ and_yes (all p n))
    go false e = ne_eqb (counted (λ k. not (p k)) n + 1) 0 (λ z. omega arith) ∙ sym (and_no (all p n))

-- a set that names only numbers below n is counted below n
pub size_below : (s n : ℕ) (p : ℕ → Bool) → n ≤ 64 → Below s n ≡ true → ((k : ℕ) → k < 64 → has s k ≡ p k) → size s ≡ counted p n
size_below s n p h e g = ap (λ m. counted (λ k. has s k) m) full ∙ summed-more (λ k. cond (has s k) 1 0) n (64 - n) (λ k a b. ap (λ (x : Bool). cond x 1 0) (beyond k a b)) ∙ counted_same (λ k. has s k) p n (λ k l. g k (omega arith))
  where
    full : 64 ≡ n + (64 - n)
    full = omega arith

    beyond : (k : ℕ) → n ≤ k → k < n + (64 - n) → has s k ≡ false
    beyond k a b = go (has s k) refl
      where
        go : (x : Bool) → has s k ≡ x → x ≡ false
        go true q = let l = below-has s n e k (omega arith) q in absurd (omega arith)
        go false q = refl
