-- Sets that name only numbers below n, under the operations; and more members of what is given by members.
use mathlib.Core.Path.{◌≡◌, refl, sym, ◌∙◌}
use mathlib.Core.Bool.{Bool, true, false, ◌&&◌, ◌||◌, not}
use Prim.Native.Nat.{ℕ, zero, suc, ◌≤◌, ◌<◌}
use native.Mathlib.Omega.{arith}
use lib.Dec.{eqb, ltb}
use borrow.Author.Tests.{eqb-true, ltb-true, ltb-false, lt-ltb, not-true}
use Rattle.sets.specs.Loops.{some}
use Rattle.sets.specs.Sets.{has, collect, Within, Apart, Below, union, inter, minus, named}
use Rattle.sets.proofs.Loops.{and-true, all_true, true-all}
use Rattle.sets.proofs.Members.{has-collect, has-high, has-zero, collect-lt, has_named, below_both}

pub never : {A : Type 0} → false ≡ true → A
never e = let z : ◌≡◌ {A = ℕ} 0 1 = cc in absurd (omega arith)

pub either : {A : Type 0} (x y : Bool) → x || y ≡ true → (x ≡ true → A) → (y ≡ true → A) → A
either true y e f g = f refl
either false y e f g = g e

-- ---- a set that names only numbers below n, by its members

pub below-has : (s n : ℕ) → Below s n ≡ true → (k : ℕ) → k < 64 → has s k ≡ true → k < n
below-has s n e k l h = ltb-true k n (rw h at (all_true (λ k. not (has s k) || ltb k n) 64 e k l))

pub has-below : (s n : ℕ) → ((k : ℕ) → k < 64 → has s k ≡ true → k < n) → Below s n ≡ true
has-below s n h = true-all (λ k. not (has s k) || ltb k n) 64 (λ k l. go k l (has s k) refl)
  where
    go : (k : ℕ) → k < 64 → (b : Bool) → has s k ≡ b → not b || ltb k n ≡ true
    go k l true e = lt-ltb k n (h k l e)
    go k l false e = refl

-- what a set given by p has, p holds of
given : (p : ℕ → Bool) (k : ℕ) → k < 64 → has (collect p 64) k ≡ true → p k ≡ true
given p k l h = sym (has-collect p 64 k l) ∙ h

pub below-zero : (n : ℕ) → Below 0 n ≡ true
below-zero n = has-below 0 n (λ k l h. never (sym (has-zero k) ∙ h))

pub below-collect : (p : ℕ → Bool) (m n : ℕ) → m ≤ n → Below (collect p m) n ≡ true
below-collect p m n h = has-below (collect p m) n (λ k l e. go k e (ltb k m) refl)
  where
    go : (k : ℕ) → has (collect p m) k ≡ true → (b : Bool) → ltb k m ≡ b → k < n
    go k e true q = omega (arith, ltb-true k m q)
    go k e false q = never (sym (has-high m (collect p m) k (collect-lt p m) (ltb-false k m q)) ∙ e)

module _ (a b n : ℕ) where
  pub below-union : Below a n ≡ true → Below b n ≡ true → Below (union a b) n ≡ true
  below-union e f = below_both a b n ∙ rw (e, f)

  pub below-inter : Below a n ≡ true → Below (inter a b) n ≡ true
  below-inter e = has-below (inter a b) n (λ k l h. below-has a n e k l (and-true (has a k) (has b k) (given (λ k. has a k && has b k) k l h)).0)

  pub below-minus : Below a n ≡ true → Below (minus a b) n ≡ true
  below-minus e = has-below (minus a b) n (λ k l h. below-has a n e k l (and-true (has a k) (not (has b k)) (given (λ k. has a k && not (has b k)) k l h)).0)

-- one of those of which p holds
pub some_one : {A : Type 0} (p : ℕ → Bool) (n : ℕ) → some p n ≡ true → ((k : ℕ) → k < n → p k ≡ true → A) → A
unfolding some
some_one p zero e f = never e
some_one p (suc n) e f = either (some p n) (p n) e (λ h. some_one p n h (λ k l q. f k (omega arith) q)) (f n (omega arith))

pub below-named : (p : ℕ → Bool) (f : ℕ → ℕ) (m n : ℕ) → ((b : ℕ) → b < m → f b < n) → Below (named p f m) n ≡ true
below-named p f m n h =
    has-below (named p f m) n
    (λ k l e. some_one (λ b. p b && eqb (f b) k) m (sym (has_named p f m k l) ∙ e) (λ b q z. omega (arith, eqb-true (f b) k (and-true (p b) (eqb (f b) k) z).1, h b q)))

-- ---- members of the results

pub has-minus : (a b k : ℕ) → k < 64 → has (minus a b) k ≡ (has a k && not (has b k))
has-minus a b k l = has-collect (λ k. has a k && not (has b k)) 64 k l

pub has-union : (a b k : ℕ) → k < 64 → has (union a b) k ≡ (has a k || has b k)
has-union a b k l = has-collect (λ k. has a k || has b k) 64 k l

-- ---- the tests, member by member

pub within_has : (a b : ℕ) → Within a b ≡ true → (k : ℕ) → k < 64 → has a k ≡ true → has b k ≡ true
within_has a b e k l h = rw h at (all_true (λ k. not (has a k) || has b k) 64 e k l)

pub apart-has : (a b : ℕ) → Apart a b ≡ true → (k : ℕ) → k < 64 → has a k ≡ true → has b k ≡ false
apart-has a b e k l h = not-true (has b k) (rw h at (all_true (λ k. not (has a k && has b k)) 64 e k l))
