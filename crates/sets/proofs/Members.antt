-- Sets by their members: what the machine's words have as members, and that a word is its members.
use mathlib.Core.Path.{◌≡◌, refl, sym, ap, ap₂, ◌∙◌}
use mathlib.Core.Bool.{Bool, true, false, ◌&&◌, ◌||◌, not, cond}
use mathlib.Core.Logic.{⊎_elim}
use Prim.Native.Nat.{ℕ, zero, suc, ◌+◌, ◌-◌, ◌*◌, ◌/◌, ◌%◌, ◌^◌, ◌≤◌, ◌<◌, min, max}
use native.Mathlib.Nat.{eq-or-lt_of_le, le_of_suc-le-suc, one-mul, mod-eq_of_lt, lt_of_le_of_lt, lt_trans, mod-lt}
use native.Mathlib.Numerals.{add-one}
use native.Mathlib.Omega.{arith}
use lib.Dec.{eqb, ltb, leb}
use lib.Pow.{pow-lt, pow_pos, shr_le, shl-shr, field, mod-mod-pow}
use lib.Bits.{bit_and, bit_or, and_lt, or_lt, or_shifted_r, and_shifted}
use borrow.Author.Tests.{eqb-true, eqb-false, eq-eqb, ne_eqb, lt-ltb, le-ltb, le-leb, lt-leb, leb-true, leb-false, ltb-true, ltb-false, not-true}
use Rattle.sets.specs.Loops.{all, some}
use Rattle.sets.specs.Sets.{bit, has, collect, Within, Apart, Below, union, inter, minus, insert, named, beyond}
use Rattle.sets.proofs.Bits.{bit-lt, bit-and, bit-or, bit-shr, ext, bit-zero, bit_high, bit-pow-same, bit-pow-other, bit_not}
use Rattle.sets.proofs.Loops.{capped, some-start, some_same, eqb-sym, bool_eq, all_true, true-all, all_same, all_both, or-false, or-true, and_yes}

-- ---- a word is its members

-- what holds of 0 and of 1 holds of every digit
digit : (P : ℕ → Type 0) → P 0 → P 1 → (x : ℕ) → x < 2 → P x
digit P p q zero h = p
digit P p q (suc zero) h = q
digit P p q (suc (suc x)) h = absurd (omega arith)

-- of two digits: f of them is 1 exactly where g of the tests says so
digits : (f : ℕ → ℕ → ℕ) (g : Bool → Bool → Bool)
    → eqb (f 0 0) 1 ≡ g false false → eqb (f 0 1) 1 ≡ g false true → eqb (f 1 0) 1 ≡ g true false → eqb (f 1 1) 1 ≡ g true true
    → (a b k : ℕ) → eqb (f (bit a k) (bit b k)) 1 ≡ g (has a k) (has b k)
digits f g e00 e01 e10 e11 a b k =
    digit (λ x. eqb (f x (bit b k)) 1 ≡ g (eqb x 1) (has b k))
    (digit (λ y. eqb (f 0 y) 1 ≡ g false (eqb y 1)) e00 e01 (bit b k) (bit-lt b k))
    (digit (λ y. eqb (f 1 y) 1 ≡ g true (eqb y 1)) e10 e11 (bit b k) (bit-lt b k))
    (bit a k) (bit-lt a k)

has-bit : (a b k : ℕ) → has a k ≡ has b k → bit a k ≡ bit b k
has-bit a b k =
    digit (λ x. eqb x 1 ≡ has b k → x ≡ bit b k)
    (digit (λ y. false ≡ eqb y 1 → 0 ≡ y) (λ e. refl) (λ e. cc) (bit b k) (bit-lt b k))
    (digit (λ y. true ≡ eqb y 1 → 1 ≡ y) (λ e. cc) (λ e. refl) (bit b k) (bit-lt b k))
    (bit a k) (bit-lt a k)

pub same-members : (n a b : ℕ) → a < 2 ^ n → b < 2 ^ n → ((k : ℕ) → k < n → has a k ≡ has b k) → a ≡ b
same-members n a b ha hb h = ext n a b ha hb (λ k l. has-bit a b k (h k l))

-- ---- the members of what the machine computes

pub has-and : (a b k : ℕ) → has (bit_and a b) k ≡ (has a k && has b k)
has-and a b k = ap (λ (x : ℕ). eqb x 1) (bit-and a b k) ∙ digits min ◌&&◌ refl refl refl refl a b k

pub has-or : (a b k : ℕ) → has (bit_or a b) k ≡ (has a k || has b k)
has-or a b k = ap (λ (x : ℕ). eqb x 1) (bit-or a b k) ∙ digits max ◌||◌ refl refl refl refl a b k

pub has-not : (s k : ℕ) → s < 2 ^ 64 → k < 64 → has (2 ^ 64 - 1 - s) k ≡ not (has s k)
has-not s k hs l =
    ap (λ (x : ℕ). eqb x 1) (bit_not 64 s k hs l) ∙ digits (λ x y. 1 - x) (λ x y. not x) refl refl refl refl s s k

pub has-pow : (j k : ℕ) → has (2 ^ j) k ≡ eqb k j
has-pow j k = go (eqb k j) refl
  where
    go : (b : Bool) → eqb k j ≡ b → has (2 ^ j) k ≡ b
    go true e = ap (has (2 ^ j)) (eqb-true k j e) ∙ ap (λ (x : ℕ). eqb x 1) (bit-pow-same j)
    go false e = ap (λ (x : ℕ). eqb x 1) (bit-pow-other j k (eqb-false k j e))

pub has-zero : (k : ℕ) → has 0 k ≡ false
has-zero k = ap (λ (x : ℕ). eqb x 1) (bit-zero k)

pub has-high : (n s k : ℕ) → s < 2 ^ n → n ≤ k → has s k ≡ false
has-high n s k hs l = ap (λ (x : ℕ). eqb x 1) (bit_high n s k hs l)

-- ---- the members of a set that is given by them

pub collect-lt : (p : ℕ → Bool) (n : ℕ) → collect p n < 2 ^ n
unfolding collect
collect-lt p zero = omega arith
collect-lt p (suc n) = go (p n) (collect-lt p n)
  where
    go : (b : Bool) → collect p n < 2 ^ n → collect p n + cond b (2 ^ n) 0 < 2 ^ suc n
    go true h = omega arith
    go false h = omega arith

-- the highest number put in is an `or`
put-or : (n s : ℕ) → s < 2 ^ n → s + 2 ^ n ≡ bit_or s (2 ^ n)
put-or n s h =
    sym (ap (bit_or s) (sym (one-mul (2 ^ n))) ∙ or_shifted_r 1 n s h ∙ ap (λ (x : ℕ). x + s) (one-mul (2 ^ n)) ∙ omega arith)

pub has-collect : (p : ℕ → Bool) (n k : ℕ) → k < n → has (collect p n) k ≡ p k
unfolding collect
has-collect p zero k l = absurd (omega arith)
has-collect p (suc n) k l =
    ⊎_elim (λ e. ap (has (collect p n + cond (p n) (2 ^ n) 0)) e ∙ new (p n) ∙ ap p (sym e))
    (λ m. old (p n) m ∙ has-collect p n k m) (eq-or-lt_of_le (le_of_suc-le-suc l))
  where
    none_yet : has (collect p n) n ≡ false
    none_yet = has-high n (collect p n) n (collect-lt p n) (omega arith)

    new : (b : Bool) → has (collect p n + cond b (2 ^ n) 0) n ≡ b
    new true = ap (λ (x : ℕ). has x n) (put-or n (collect p n) (collect-lt p n)) ∙ has-or (collect p n) (2 ^ n) n ∙ rw (none_yet) (ap (λ (x : ℕ). eqb x 1) (bit-pow-same n))
    new false = ap (λ (x : ℕ). has x n) (omega arith) ∙ none_yet

    old : (b : Bool) → k < n → has (collect p n + cond b (2 ^ n) 0) k ≡ has (collect p n) k
    old true m =
        ap (λ (x : ℕ). has x k) (put-or n (collect p n) (collect-lt p n)) ∙ has-or (collect p n) (2 ^ n) k
        ∙ ap (λ (b : Bool). has (collect p n) k || b) (has-pow n k ∙ ne_eqb k n (λ e. omega arith)) ∙ or-false (has (collect p n) k)
    old false m = ap (λ (x : ℕ). has x k) (omega arith)

-- a word with the members that p says is the set that p gives
pub by_members : (s : ℕ) (p : ℕ → Bool) → s < 2 ^ 64 → ((k : ℕ) → k < 64 → has s k ≡ p k) → s ≡ collect p 64
by_members s p hs h = same-members 64 s (collect p 64) hs (collect-lt p 64) (λ k l. h k l ∙ sym (has-collect p 64 k l))

-- ---- the machine's words and tests are the sets and tests by members

pub or-union : (a b : ℕ) → a < 2 ^ 64 → b < 2 ^ 64 → bit_or a b ≡ union a b
or-union a b ha hb = by_members (bit_or a b) (λ k. has a k || has b k) (or_lt 64 a b ha hb) (λ k l. has-or a b k)

pub and-inter : (a b : ℕ) → a < 2 ^ 64 → b < 2 ^ 64 → bit_and a b ≡ inter a b
and-inter a b ha hb = by_members (bit_and a b) (λ k. has a k && has b k) (and_lt 64 a b ha hb) (λ k l. has-and a b k)

pub and-not-minus : (a b : ℕ) → a < 2 ^ 64 → b < 2 ^ 64 → bit_and a (2 ^ 64 - 1 - b) ≡ minus a b
and-not-minus a b ha hb =
    by_members (bit_and a (2 ^ 64 - 1 - b)) (λ k. has a k && not (has b k)) (and_lt 64 a (2 ^ 64 - 1 - b) ha (omega arith))
    (λ k l. has-and a (2 ^ 64 - 1 - b) k ∙ ap (λ (x : Bool). has a k && x) (has-not b k hb l))

or-insert : (s k : ℕ) → s < 2 ^ 64 → k < 64 → bit_or s (2 ^ k) ≡ insert s k
or-insert s k hs l =
    by_members (bit_or s (2 ^ k)) (λ j. has s j || eqb j k) (or_lt 64 s (2 ^ k) hs (pow-lt l))
    (λ j m. has-or s (2 ^ k) j ∙ ap (λ (x : Bool). has s j || x) (has-pow k j))

pub or-shl-insert : (s k : ℕ) → s < 2 ^ 64 → k < 64 → bit_or s (1 * 2 ^ k % 2 ^ 64) ≡ insert s k
or-shl-insert s k hs l =
    ap (bit_or s) (ap (λ (x : ℕ). x % 2 ^ 64) (one-mul (2 ^ k)) ∙ mod-eq_of_lt (pow-lt l)) ∙ or-insert s k hs l

pub insert-beyond : (s k : ℕ) → s < 2 ^ 64 → 64 ≤ k → s ≡ insert s k
insert-beyond s k hs l =
    by_members s (λ j. has s j || eqb j k) hs (λ j m. sym (ap (λ (x : Bool). has s j || x) (ne_eqb j k (λ e. omega arith)) ∙ or-false (has s j)))

-- the bool that two words are equal, by their members
equal : (a b : ℕ) (p : ℕ → Bool) → a < 2 ^ 64 → b < 2 ^ 64
    → ((k : ℕ) → k < 64 → has a k ≡ has b k → p k ≡ true) → ((k : ℕ) → k < 64 → p k ≡ true → has a k ≡ has b k)
    → eqb a b ≡ all p 64
equal a b p ha hb f g =
    bool_eq (eqb a b) (all p 64)
    (λ e. true-all p 64 (λ k l. f k l (ap (λ (x : ℕ). has x k) (eqb-true a b e))))
    (λ e. eq-eqb a b (same-members 64 a b ha hb (λ k l. g k l (all_true p 64 e k l))))

pub and-within : (a b : ℕ) → a < 2 ^ 64 → b < 2 ^ 64 → eqb (bit_and a b) a ≡ Within a b
and-within a b ha hb =
    equal (bit_and a b) a (λ k. not (has a k) || has b k) (and_lt 64 a b ha hb) ha
    (λ k l e. to (has a k) (has b k) (sym (has-and a b k) ∙ e)) (λ k l e. has-and a b k ∙ from (has a k) (has b k) e)
  where
    to : (x y : Bool) → x && y ≡ x → not x || y ≡ true
    to true y e = e
    to false y e = refl

    from : (x y : Bool) → not x || y ≡ true → x && y ≡ x
    from true y e = e
    from false y e = refl

pub and-apart : (a b : ℕ) → a < 2 ^ 64 → b < 2 ^ 64 → eqb (bit_and a b) 0 ≡ Apart a b
and-apart a b ha hb =
    equal (bit_and a b) 0 (λ k. not (has a k && has b k)) (and_lt 64 a b ha hb) (omega arith)
    (λ k l e. ap not (sym (has-and a b k) ∙ e ∙ has-zero k)) (λ k l e. has-and a b k ∙ not-true _ e ∙ sym (has-zero k))

-- the members from n on are those of what is left after n bits
has-shr : (s n k : ℕ) → has (s / 2 ^ n) k ≡ has s (n + k)
has-shr s n k = ap (λ (x : ℕ). eqb x 1) (bit-shr s n k)

pub shr_below : (s n : ℕ) → s < 2 ^ 64 → eqb (s / 2 ^ n) 0 ≡ Below s n
shr_below s n hs =
    bool_eq (eqb (s / 2 ^ n) 0) (Below s n)
    (λ e. true-all named 64 (λ k l. to k (eqb-true (s / 2 ^ n) 0 e) (ltb k n) refl))
    (λ e. eq-eqb (s / 2 ^ n) 0 (same-members 64 (s / 2 ^ n) 0 (lt_of_le_of_lt (shr_le s n) hs) (omega arith)
    (λ k l. has-shr s n k ∙ from k (all_true named 64 e (n + k)) (ltb (n + k) 64) refl ∙ sym (has-zero k))))
  where
    named : ℕ → Bool
    named k = not (has s k) || ltb k n

    to : (k : ℕ) → s / 2 ^ n ≡ 0 → (b : Bool) → ltb k n ≡ b → not (has s k) || b ≡ true
    to k e true f = or-true (not (has s k))
    to k e false f =
        let h : n + (k - n) ≡ k = omega (arith, ltb-false k n f) in
        let g : has s k ≡ false = ap (has s) (sym h) ∙ sym (has-shr s n (k - n)) ∙ ap (λ (x : ℕ). has x (k - n)) e ∙ has-zero (k - n) in
        rw g

    none : (x : Bool) → not x || false ≡ true → x ≡ false
    none x e = not-true x (sym (or-false (not x)) ∙ e)

    from : (k : ℕ) → (n + k < 64 → named (n + k) ≡ true) → (b : Bool) → ltb (n + k) 64 ≡ b → has s (n + k) ≡ false
    from k h true f = none (has s (n + k)) (rw (le-ltb (n + k) n (omega arith)) at (h (ltb-true (n + k) 64 f)))
    from k h false f = has-high 64 s (n + k) hs (ltb-false (n + k) 64 f)

pub all-below : (s n : ℕ) → s < 2 ^ 64 → 64 ≤ n → true ≡ Below s n
all-below s n hs l =
    sym (true-all (λ k. not (has s k) || ltb k n) 64 (λ k m. ap (λ (b : Bool). not (has s k) || b) (lt-ltb k n (omega arith)) ∙ or-true (not (has s k))))

-- ---- a loop that collects: number k put in if p holds of it

pub collect-start : (p : ℕ → Bool) → 0 ≡ collect p 0
unfolding collect
collect-start p = refl

below_64 : (p : ℕ → Bool) (k : ℕ) → k < 64 → collect p k < 2 ^ 64
below_64 p k l = lt_trans (collect-lt p k) (pow-lt l)

pub collect-turn : (p : ℕ → Bool) (k s r : ℕ) (b : Bool) → k < 64 → s ≡ collect p k → b ≡ p k → r ≡ cond b (insert s k) s → r ≡ collect p (k + 1)
unfolding collect
collect-turn p k s r true l e t h =
    h ∙ ap (λ (x : ℕ). insert x k) e ∙ sym (or-insert (collect p k) k (below_64 p k l) l) ∙ sym (put-or k (collect p k) (collect-lt p k)) ∙ rw (add-one, ← t)
collect-turn p k s r false l e t h = h ∙ e ∙ rw (add-one, ← t) (omega arith)

pub collect-capped : (p : ℕ → Bool) (m n : ℕ) → ((k : ℕ) → m ≤ k → p k ≡ false) → collect p (min n m) ≡ collect p n
unfolding collect
collect-capped p m n h = capped (collect p) m n (λ k l. rw (h k l) (omega arith))

-- two tests that agree below n give one set
pub collect-same : (p q : ℕ → Bool) (n : ℕ) → ((k : ℕ) → k < n → p k ≡ q k) → collect p n ≡ collect q n
unfolding collect
collect-same p q zero h = refl
collect-same p q (suc n) h = ap₂ (λ (s : ℕ) (b : Bool). s + cond b (2 ^ n) 0) (collect-same p q n (λ k l. h k (omega arith))) (h n (omega arith))

-- ---- the set of f b for the numbers b below n of which p holds

pub has_named : (p : ℕ → Bool) (f : ℕ → ℕ) (n a : ℕ) → a < 64 → has (named p f n) a ≡ some (λ b. p b && eqb (f b) a) n
has_named p f n a l = has-collect (λ a. some (λ b. p b && eqb (f b) a) n) 64 a l

pub named_start : (p : ℕ → Bool) (f : ℕ → ℕ) → 0 ≡ named p f 0
named_start p f = by_members 0 (λ a. some (λ b. p b && eqb (f b) a) 0) (omega arith) (λ k l. has-zero k ∙ some-start _)

pub named-turn : (p : ℕ → Bool) (f : ℕ → ℕ) (n : ℕ) → named p f (suc n) ≡ cond (p n) (insert (named p f n) (f n)) (named p f n)
unfolding some
named-turn p f n = go (p n) refl
  where
    old : ℕ → Bool
    old a = some (λ b. p b && eqb (f b) a) n

    go : (t : Bool) → p n ≡ t → named p f (suc n) ≡ cond t (insert (named p f n) (f n)) (named p f n)
    go true e =
        same-members 64 (named p f (suc n)) (insert (named p f n) (f n)) (collect-lt _ 64) (collect-lt _ 64)
        (λ a l. has-collect _ 64 a l ∙ rw e (ap₂ ◌||◌ (sym (has_named p f n a l)) (eqb-sym (f n) a)) ∙ sym (has-collect _ 64 a l))
    go false e =
        same-members 64 (named p f (suc n)) (named p f n) (collect-lt _ 64) (collect-lt _ 64)
        (λ a l. has-collect _ 64 a l ∙ rw e (or-false _) ∙ sym (has-collect _ 64 a l))

pub named-same : (p q : ℕ → Bool) (f g : ℕ → ℕ) (n : ℕ) → ((b : ℕ) → b < n → p b ≡ q b) → ((b : ℕ) → b < n → f b ≡ g b) → named p f n ≡ named q g n
named-same p q f g n h e = collect-same _ _ 64 (λ a l. some_same _ _ n (λ b m. ap₂ (λ (t : Bool) (x : ℕ). t && eqb x a) (h b m) (e b m)))

-- ---- the members of a shifted word

pub has-shl-high : (s j k : ℕ) → j ≤ k → has (s * 2 ^ j) k ≡ has s (k - j)
has-shl-high s j k l =
    let e : j + (k - j) ≡ k = omega arith in
    ap (has (s * 2 ^ j)) (sym e) ∙ sym (has-shr (s * 2 ^ j) j (k - j)) ∙ ap (λ (x : ℕ). has x (k - j)) (shl-shr s j)

pub has-shl-low : (s j k : ℕ) → k < j → has (s * 2 ^ j) k ≡ false
has-shl-low s j k l =
    and_yes (has (s * 2 ^ j) k) ∙ ap (λ (b : Bool). has (s * 2 ^ j) k && b) (sym (has-pow k k ∙ eq-eqb k k refl)) ∙ sym (has-and (s * 2 ^ j) (2 ^ k) k)
    ∙ ap (λ (x : ℕ). has x k) (and_shifted s j (2 ^ k) (pow-lt l)) ∙ has-zero k

-- what goes by its rest by 2 ^ n keeps its numbers below n
pub has-mod : (n s k : ℕ) → k < n → has (s % 2 ^ n) k ≡ has s k
has-mod n s k l =
    let e : n - k - 1 + 1 + k ≡ n = omega arith in
    ap (λ (m : ℕ). has (s % 2 ^ m) k) (sym e) ∙ ap (λ (x : ℕ). eqb (x % 2) 1) (field s (n - k - 1 + 1) k) ∙ ap (λ (x : ℕ). eqb x 1) (mod-mod-pow (s / 2 ^ k) (n - k - 1) 1)

-- ---- all numbers from n on

has-full : (k : ℕ) → k < 64 → has 18446744073709551615 k ≡ true
has-full k l = has-not 0 k (omega arith) l ∙ ap not (has-zero k)

pub shl-beyond : (n : ℕ) → n < 64 → 18446744073709551615 * 2 ^ n % 2 ^ 64 ≡ beyond n
shl-beyond n h =
    by_members (18446744073709551615 * 2 ^ n % 2 ^ 64) (λ k. leb n k) (mod-lt _ (pow_pos 64))
    (λ k l. has-mod 64 (18446744073709551615 * 2 ^ n) k l ∙ go k l (leb n k) refl)
  where
    go : (k : ℕ) → k < 64 → (b : Bool) → leb n k ≡ b → has (18446744073709551615 * 2 ^ n) k ≡ b
    go k l true e = has-shl-high 18446744073709551615 n k (leb-true n k e) ∙ has-full (k - n) (omega arith)
    go k l false e = has-shl-low 18446744073709551615 n k (leb-false n k e)

pub none-beyond : (n : ℕ) → 64 ≤ n → 0 ≡ beyond n
none-beyond n h = by_members 0 (λ k. leb n k) (omega arith) (λ k l. has-zero k ∙ sym (lt-leb n k (omega arith)))

has-beyond : (n k : ℕ) → k < 64 → has (beyond n) k ≡ not (ltb k n)
has-beyond n k l = has-collect (λ k. leb n k) 64 k l ∙ go (ltb k n) refl
  where
    go : (t : Bool) → ltb k n ≡ t → leb n k ≡ not t
    go true e = lt-leb n k (ltb-true k n e)
    go false e = le-leb n k (ltb-false k n e)

-- two sets name only numbers below n if both together do
pub below_both : (a b n : ℕ) → Below (union a b) n ≡ (Below a n && Below b n)
below_both a b n =
    all_same _ _ 64 (λ k l. ap (λ (x : Bool). not x || ltb k n) (has-collect (λ k. has a k || has b k) 64 k l) ∙ go (has a k) (has b k) (ltb k n))
    ∙ sym (all_both (λ k. not (has a k) || ltb k n) (λ k. not (has b k) || ltb k n) 64)
  where
    go : (x y t : Bool) → not (x || y) || t ≡ ((not x || t) && (not y || t))
    go true y true = sym (or-true (not y))
    go true y false = refl
    go false true true = refl
    go false true false = refl
    go false false t = refl

-- and if neither has a number from n on
pub apart-beyond : (a b n : ℕ) → Apart (union a b) (beyond n) ≡ (Below a n && Below b n)
apart-beyond a b n = all_same _ _ 64 (λ k l. ap (λ (x : Bool). not (has (union a b) k && x)) (has-beyond n k l) ∙ go (has (union a b) k) (ltb k n)) ∙ below_both a b n
  where
    go : (x t : Bool) → not (x && not t) ≡ (not x || t)
    go true true = refl
    go true false = refl
    go false t = refl
