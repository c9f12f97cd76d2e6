-- 64-bit sets: "bit k is number k". Each set and each test is given by its members below 64, and computes on concrete numbers.
use Rattle.std.specs.Prelude.{Bool, ◌&&◌, ◌||◌, not, cond, ℕ, zero, suc, ◌+◌, ◌/◌, ◌%◌, ◌^◌, eqb, ltb, leb}
use Rattle.sets.specs.Loops.{all, some, first_of, counted}

-- bit k of s, 0 or 1
abbrev pub bit : ℕ → ℕ → ℕ
bit s k = s / 2 ^ k % 2

-- k is in the set s
abbrev pub has : ℕ → ℕ → Bool
has s k = eqb (s / 2 ^ k % 2) 1

-- the set of the numbers below n of which p holds
unfoldable pub collect : (ℕ → Bool) → ℕ → ℕ
collect p zero = 0
collect p (suc n) = collect p n + cond (p n) (2 ^ n) 0

-- each member of a is one of b
abbrev pub Within : ℕ → ℕ → Bool
Within a b = all (λ k. not (has a k) || has b k) 64

-- no number is in both
abbrev pub Apart : ℕ → ℕ → Bool
Apart a b = all (λ k. not (has a k && has b k)) 64

-- the set names only numbers below n
abbrev pub Below : ℕ → ℕ → Bool
Below s n = all (λ k. not (has s k) || ltb k n) 64

-- what is in a or in b
abbrev pub union : ℕ → ℕ → ℕ
union a b = collect (λ k. has a k || has b k) 64

-- what is in both
abbrev pub inter : ℕ → ℕ → ℕ
inter a b = collect (λ k. has a k && has b k) 64

-- what is in a and not in b
abbrev pub minus : ℕ → ℕ → ℕ
minus a b = collect (λ k. has a k && not (has b k)) 64

-- s with k
abbrev pub insert : ℕ → ℕ → ℕ
insert s k = collect (λ j. has s j || eqb j k) 64

-- the set of f b for the numbers b below n of which p holds
abbrev pub named : (ℕ → Bool) → (ℕ → ℕ) → ℕ → ℕ
named p f n = collect (λ a. some (λ b. p b && eqb (f b) a) n) 64

-- all numbers from n on
abbrev pub beyond : ℕ → ℕ
beyond n = collect (λ k. leb n k) 64

-- how many members s has
abbrev pub size : ℕ → ℕ
size s = counted (λ k. has s k) 64

-- the least member, 64 if there is none
abbrev pub first : ℕ → ℕ
first s = first_of (λ k. has s k) 64

-- s without k
abbrev pub remove : ℕ → ℕ → ℕ
remove s k = collect (λ j. has s j && not (eqb j k)) 64

-- what a turn f k makes of x if k is in s; otherwise x stays
abbrev pub among : {A : Type 0} → ℕ → (ℕ → A → A) → ℕ → A → A
among s f k x = cond (has s k) (f k x) x
