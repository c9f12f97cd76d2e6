-- The bits of a number: of the machine's `&`, `|`, `!` and `1 << k`, and that a number is its bits.
use mathlib.Core.Path.{◌≡◌, refl, sym, ap, ◌∙◌}
use Prim.Native.Nat.{ℕ, zero, suc, ◌+◌, ◌-◌, ◌*◌, ◌/◌, ◌%◌, ◌^◌, ◌≤◌, ◌<◌, min, max}
use native.Mathlib.Nat.{mod-lt, zero-lt-suc, pow-suc, zero-div}
use native.Mathlib.Omega.{arith}
use lib.Arith.{digits_mod, lt-one}
use lib.Pow.{shr-shr}
use lib.Bits.{bit_and, bit_or, and_step, or_step, and_shr, or_shr}
use Rattle.sets.specs.Sets.{bit}

pub bit-lt : (s k : ℕ) → bit s k < 2
bit-lt s k = mod-lt (s / 2 ^ k) (zero-lt-suc 1)

pub bit-and : (a b k : ℕ) → bit (bit_and a b) k ≡ min (bit a k) (bit b k)
bit-and a b k =
    ap (λ (x : ℕ). x % 2) (and_shr a b k ∙ and_step (a / 2 ^ k) (b / 2 ^ k))
    ∙ digits_mod _ (omega (arith, bit-lt a k, bit-lt b k))

pub bit-or : (a b k : ℕ) → bit (bit_or a b) k ≡ max (bit a k) (bit b k)
bit-or a b k =
    ap (λ (x : ℕ). x % 2) (or_shr a b k ∙ or_step (a / 2 ^ k) (b / 2 ^ k))
    ∙ digits_mod _ (omega (arith, bit-lt a k, bit-lt b k))

-- bit k of what is left after n bits
pub bit-shr : (s n k : ℕ) → bit (s / 2 ^ n) k ≡ bit s (n + k)
bit-shr s n k = ap (λ (x : ℕ). x % 2) (shr-shr s n k)

pub bit-suc : (s k : ℕ) → bit s (suc k) ≡ bit (s / 2) k
bit-suc s k = ap (λ (e : ℕ). s / 2 ^ e % 2) (omega arith) ∙ sym (bit-shr s 1 k)

pub bit-first : (s : ℕ) → bit s 0 ≡ s % 2
bit-first s = omega arith

double : (n : ℕ) → 2 ^ suc n ≡ 2 ^ n * 2
double n = pow-suc 2 n

half_lt : (s n : ℕ) → s < 2 ^ suc n → s / 2 < 2 ^ n
half_lt s n h = omega (arith, double n)

-- two numbers of n bits with the same bits are equal
pub ext : (n a b : ℕ) → a < 2 ^ n → b < 2 ^ n → ((k : ℕ) → k < n → bit a k ≡ bit b k) → a ≡ b
ext zero a b ha hb h = lt-one ha ∙ sym (lt-one hb)
ext (suc n) a b ha hb h =
    let top : a / 2 ≡ b / 2 =
    ext n (a / 2) (b / 2) (half_lt a n ha) (half_lt b n hb)
    (λ k l. sym (bit-suc a k) ∙ h (suc k) (omega arith) ∙ bit-suc b k) in
    let low : a % 2 ≡ b % 2 = sym (bit-first a) ∙ h 0 (omega arith) ∙ bit-first b in
    omega arith

pub bit-zero : (k : ℕ) → bit 0 k ≡ 0
bit-zero k = ap (λ (x : ℕ). x % 2) (zero-div (2 ^ k))

-- a number below 2 ^ n has no bit from n on
pub bit_high : (n s k : ℕ) → s < 2 ^ n → n ≤ k → bit s k ≡ 0
bit_high zero s k hs l = ap (λ (x : ℕ). bit x k) (lt-one hs) ∙ bit-zero k
bit_high (suc n) s zero hs l = absurd (omega arith)
bit_high (suc n) s (suc k) hs l = bit-suc s k ∙ bit_high n (s / 2) k (half_lt s n hs) (omega arith)

half_pow : (j : ℕ) → 2 ^ suc j / 2 ≡ 2 ^ j
half_pow j = omega (arith, double j)

pub bit-pow-same : (j : ℕ) → bit (2 ^ j) j ≡ 1
bit-pow-same zero = refl
bit-pow-same (suc j) = bit-suc (2 ^ suc j) j ∙ ap (λ (x : ℕ). bit x j) (half_pow j) ∙ bit-pow-same j

pub bit-pow-other : (j k : ℕ) → (k ≡ j → ⊥) → bit (2 ^ j) k ≡ 0
bit-pow-other zero zero h = absurd (h refl)
bit-pow-other zero (suc k) h = bit-suc 1 k ∙ bit-zero k
bit-pow-other (suc j) zero h = omega (arith, double j)
bit-pow-other (suc j) (suc k) h =
    bit-suc (2 ^ suc j) k ∙ ap (λ (x : ℕ). bit x k) (half_pow j) ∙ bit-pow-other j k (λ e. h (ap suc e))

pub bit_not : (n s k : ℕ) → s < 2 ^ n → k < n → bit (2 ^ n - 1 - s) k ≡ 1 - bit s k
bit_not zero s k hs l = absurd (omega arith)
bit_not (suc n) s zero hs l = omega (arith, double n)
bit_not (suc n) s (suc k) hs l =
    let e : (2 ^ suc n - 1 - s) / 2 ≡ 2 ^ n - 1 - s / 2 = omega (arith, double n) in
    bit-suc (2 ^ suc n - 1 - s) k ∙ ap (λ (x : ℕ). bit x k) e ∙ bit_not n (s / 2) k (half_lt s n hs) (omega arith)
    ∙ ap (λ (x : ℕ). 1 - x) (sym (bit-suc s k))
