-- The least member of a set, and the set without it: what the machine computes, and their members.
use mathlib.Core.Path.{◌≡◌, refl, sym, ap, ◌∙◌}
use mathlib.Core.Bool.{Bool, true, false, ◌&&◌, not, cond}
use Prim.Native.Nat.{ℕ, zero, suc, ◌-◌, ◌/◌, ◌%◌, ◌^◌, ◌≤◌, ◌<◌}
use native.Mathlib.Nat.{le_antisymm}
use native.Mathlib.Omega.{arith}
use lib.Dec.{eqb, ltb, eqb-suc-suc, eqb-suc-zero}
use lib.Bits.{bit_and, and_lt, and_le_r}
use lib.Count.{count_trailing_zeros, under}
use borrow.Author.Tests.{eqb-true, eqb-false, ltb-true, ltb-false}
use Rattle.sets.specs.Loops.{first_of}
use Rattle.sets.specs.Sets.{bit, has, first, remove}
use Rattle.sets.proofs.Bits.{bit-suc, bit-first}
use Rattle.sets.proofs.Members.{has-and, has-collect, has-high, has-zero, by_members, same-members}
use Rattle.sets.proofs.Below.{never}

-- ---- the least number below n of which p holds, n if there is none

record Least (p : ℕ → Bool) (n k : ℕ) : Type 0 where
  within : k ≤ n
  none : (j : ℕ) → j < k → p j ≡ false
  here : k < n → p k ≡ true

least_zero : (p : ℕ → Bool) → Least p 0 0
least_zero p = record { within = omega arith; none = λ j h. absurd (omega arith); here = λ h. absurd (omega arith) }

least_first : (p : ℕ → Bool) (n : ℕ) → Least p n (first_of p n)
unfolding first_of
least_first p zero = least_zero p
least_first p (suc n) = go (first_of p n) (least_first p n) (ltb (first_of p n) n) refl (p n) refl
  where
    go : (k : ℕ) → Least p n k → (b : Bool) → ltb k n ≡ b → (t : Bool) → p n ≡ t → Least p (suc n) (cond b k (cond t n (suc n)))
    go k l true e t f = record { within = omega (arith, l.within); none = l.none; here = λ h. l.here (ltb-true k n e) }
    go k l false e true f = record { within = omega arith; none = λ j h. l.none j (omega (arith, ltb-false k n e)); here = λ h. f }
    go k l false e false f = record { within = omega arith; none = λ j h. last j h (ltb j n) refl; here = λ h. absurd (omega arith) }
      where
        last : (j : ℕ) → j < suc n → (b : Bool) → ltb j n ≡ b → p j ≡ false
        last j h true q = l.none j (omega (arith, ltb-true j n q, ltb-false k n e))
        last j h false q = ap p (le_antisymm (omega arith) (ltb-false j n q)) ∙ f

least-le : (p : ℕ → Bool) (n k m : ℕ) → Least p n k → Least p n m → k ≤ m
least-le p n k m a b = go (ltb m k) refl
  where
    go : (t : Bool) → ltb m k ≡ t → k ≤ m
    go true e = never (sym (a.none m (ltb-true m k e)) ∙ b.here (omega (arith, ltb-true m k e, a.within)))
    go false e = ltb-false m k e

-- ---- the machine's count of the zeros below the lowest one

has-suc : (s k : ℕ) → has s (suc k) ≡ has (s / 2) k
has-suc s k = ap (λ (x : ℕ). eqb x 1) (bit-suc s k)

has-low : (s d : ℕ) → s % 2 ≡ d → has s 0 ≡ eqb d 1
has-low s d e = ap (λ (x : ℕ). eqb x 1) (bit-first s ∙ e)

least-trailing : (n s : ℕ) → Least (λ k. has s k) n (count_trailing_zeros n s)
unfolding count_trailing_zeros
least-trailing zero s = least_zero _
least-trailing (suc n) s = go (s % 2) refl (count_trailing_zeros n (s / 2)) (least-trailing n (s / 2))
  where
    go : (d : ℕ) → s % 2 ≡ d → (t : ℕ) → Least (λ k. has (s / 2) k) n t → Least (λ k. has s k) (suc n) (under d t)
    go zero e t l = record { within = omega (arith, l.within); none = low; here = λ h. has-suc s t ∙ l.here (omega arith) }
      where
        low : (j : ℕ) → j < suc t → has s j ≡ false
        low zero h = has-low s 0 e
        low (suc j) h = has-suc s j ∙ l.none j (omega arith)
    go (suc d) e t l = record { within = omega arith; none = λ j h. absurd (omega arith); here = λ h. has-low s 1 (omega arith) }

pub trailing-first : (s : ℕ) → count_trailing_zeros 64 s ≡ first s
trailing-first s =
    let a = least-trailing 64 s in
    let b = least_first (λ k. has s k) 64 in
    le_antisymm (least-le _ 64 _ _ a b) (least-le _ 64 _ _ b a)

-- ---- less 1: the least member goes, the members above it stay

less : (k j s : ℕ) → ((i : ℕ) → i < k → has s i ≡ false) → has s k ≡ true → (has s j && has (s - 1) j) ≡ (has s j && not (eqb j k))
less zero zero s n t = ap (λ (b : Bool). has s 0 && b) (has-low (s - 1) 0 (omega (arith, eqb-true (bit s 0) 1 t)))
less zero (suc j) s n t =
    let e : (s - 1) / 2 ≡ s / 2 = omega (arith, eqb-true (bit s 0) 1 t) in
    rw (has-suc (s - 1) j, e, ← has-suc s j, eqb-suc-zero j) (both (has s (suc j)))
  where
    both : (b : Bool) → b && b ≡ b && true
    both true = refl
    both false = refl
less (suc k) zero s n t = rw (n 0 (omega arith))
less (suc k) (suc j) s n t =
    let e : (s - 1) / 2 ≡ s / 2 - 1 = omega (arith, eqb-false (bit s 0) 1 (n 0 (omega arith))) in
    rw (has-suc s j, has-suc (s - 1) j, e, eqb-suc-suc j k)
    (less k j (s / 2) (λ i l. sym (has-suc s i) ∙ n (suc i) (omega arith)) (sym (has-suc s k) ∙ t))

-- ---- the least member

module _ (s : ℕ) (h : s < 2 ^ 64) (z : s ≡ 0 → ⊥) where
  least : Least (λ k. has s k) 64 (first s)
  least = least_first (λ k. has s k) 64

  pub first-has : has s (first s) ≡ true
  first-has = go (ltb (first s) 64) refl
    where
      go : (b : Bool) → ltb (first s) 64 ≡ b → has s (first s) ≡ true
      go true e = least.here (ltb-true (first s) 64 e)
      go false e =
          absurd (z (same-members 64 s 0 h (omega arith) (λ k m. least.none k (omega (arith, ltb-false (first s) 64 e)) ∙ sym (has-zero k))))

  pub first-least : (j : ℕ) → j < first s → has s j ≡ false
  first-least = least.none

  pub first-lt : (n : ℕ) → s < 2 ^ n → first s < n
  first-lt n m = go (ltb (first s) n) refl
    where
      go : (b : Bool) → ltb (first s) n ≡ b → first s < n
      go true e = ltb-true (first s) n e
      go false e = never (sym (has-high n s (first s) m (ltb-false (first s) n e)) ∙ first-has)

  -- ---- and the set without it

  pub and-remove : bit_and s (s - 1) ≡ remove s (first s)
  and-remove =
      by_members (bit_and s (s - 1)) (λ j. has s j && not (eqb j (first s))) (and_lt 64 s (s - 1) h (omega arith))
      (λ j m. has-and s (s - 1) j ∙ less (first s) j s least.none first-has)

  pub remove-lt : remove s (first s) < s
  remove-lt = omega (arith, and_le_r s (s - 1), and-remove, z)

pub remove-zero : 0 ≡ remove 0 (first 0)
remove-zero = by_members 0 (λ j. has 0 j && not (eqb j (first 0))) (omega arith) (λ j m. rw (has-zero j))

pub has-remove : (s k j : ℕ) → j < 64 → has (remove s k) j ≡ (has s j && not (eqb j k))
has-remove s k j l = has-collect (λ j. has s j && not (eqb j k)) 64 j l
