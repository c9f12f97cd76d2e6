-- What the tables of the source have, by computed tests.
use mathlib.Core.Path.{◌≡◌, refl, sym, ap, ◌∙◌}
use mathlib.Core.Bool.{Bool, true, ◌&&◌}
use mathlib.Core.List.{List, [], ◌∷◌}
use Prim.Native.Nat.{ℕ, zero, suc, ◌+◌, ◌*◌, ◌/◌, ◌^◌, ◌≤◌, ◌<◌}
use native.Mathlib.Omega.{arith}
use lib.Bits.{bit_or, or_shifted, or_add_and}
use lib.Dec.{eqb, leb}
use lib.ListN.{get_or, length}
use borrow.Author.Tests.{eqb-true, leb-true}
use Rattle.sets.proofs.Loops.{and-true}
use Rattle.forms.specs.Table.{each, span}
use Rattle.forms.proofs.Tests.{span-at}
use Rattle.text.specs.Codes.{columns, nexts, roles}
use Rattle.text.specs.Scan.{next_of, role_of}

-- columns begin at multiples of 256, the last at 8448
abbrev begins : ℕ → Bool
begins x = leb x 8448 && eqb (x / 256 * 2 ^ 8) x

each_at : (l : List ℕ) (i : ℕ) → begins 0 ≡ true → each begins l ≡ true → begins (get_or l i 0) ≡ true
unfolding each
each_at [] i z h = z
each_at (x ∷ l) zero z h = (and-true (begins x) (each begins l) h).0
each_at (x ∷ l) (suc i) z h = each_at l i z (and-true (begins x) (each begins l) h).1

columns-begin : each begins columns ≡ true
unfolding each columns
columns-begin = refl

begin-at : (b : ℕ) → begins (get_or columns b 0) ≡ true
begin-at b = each_at columns b refl columns-begin

pub place-within : (b q : ℕ) → q < 161 → bit_or (get_or columns b 0) q < 8609
place-within b q h =
    let l : get_or columns b 0 ≤ 8448 = leb-true _ _ (and-true (leb (get_or columns b 0) 8448) _ (begin-at b)).0 in
    omega (arith, or_add_and (get_or columns b 0) q)

or-sum : (b q : ℕ) → q < 161 → bit_or (get_or columns b 0) q ≡ get_or columns b 0 + q
or-sum b q h =
    let e : get_or columns b 0 / 256 * 2 ^ 8 ≡ get_or columns b 0 = eqb-true _ _ (and-true (leb (get_or columns b 0) 8448) _ (begin-at b)).1 in
    let g : bit_or (get_or columns b 0 / 256 * 2 ^ 8) q ≡ get_or columns b 0 / 256 * 2 ^ 8 + q = or_shifted (get_or columns b 0 / 256) 8 q (omega arith) in
    ap (λ (x : ℕ). bit_or x q) (sym e) ∙ g ∙ ap (λ (x : ℕ). x + q) e

nexts-many : length nexts ≡ 8609
unfolding nexts
nexts-many = refl

-- within a list any default will do
any-default : (l : List ℕ) (i d e : ℕ) → i < length l → get_or l i d ≡ get_or l i e
any-default [] i d e h = absurd (omega arith)
any-default (x ∷ l) zero d e h = refl
any-default (x ∷ l) (suc i) d e h = any-default l i d e (omega arith)

pub next-at : (b q : ℕ) → q < 161 → get_or nexts (bit_or (get_or columns b 0) q) 0 ≡ next_of q b
next-at b q h =
    any-default nexts (bit_or (get_or columns b 0) q) 0 161 (omega (arith, nexts-many, place-within b q h)) ∙ ap (λ (i : ℕ). get_or nexts i 161) (or-sum b q h)

-- the states that are reached in no role
all-silent : span (λ k. eqb (role_of k) 0) 0 95 ≡ true
unfolding span roles
all-silent = refl

pub silent-role : (q : ℕ) → q < 95 → role_of q ≡ 0
silent-role q h = eqb-true (role_of q) 0 (span-at (λ k. eqb (role_of k) 0) 95 0 q all-silent (omega arith) (omega arith))

-- by a number's first digit, and by another
all_first : span (λ k. eqb (role_of k) 1) 95 29 ≡ true
unfolding span roles
all_first = refl

all_digits : span (λ k. eqb (role_of k) 2) 124 10 ≡ true
unfolding span roles
all_digits = refl

pub first-role : (q : ℕ) → 95 ≤ q → q < 124 → role_of q ≡ 1
first-role q l h = eqb-true (role_of q) 1 (span-at (λ k. eqb (role_of k) 1) 29 95 q all_first l (omega arith))

pub digit-role : (q : ℕ) → 124 ≤ q → q < 134 → role_of q ≡ 2
digit-role q l h = eqb-true (role_of q) 2 (span-at (λ k. eqb (role_of k) 2) 10 124 q all_digits l (omega arith))

-- by a name that goes into a set
all-names : span (λ k. leb 3 (role_of k) && leb (role_of k) 6) 134 8 ≡ true
unfolding span roles
all-names = refl

pub name-role : (q : ℕ) → 134 ≤ q → q < 142 → (3 ≤ role_of q) × (role_of q ≤ 6)
name-role q l h =
    let e = and-true (leb 3 (role_of q)) (leb (role_of q) 6) (span-at (λ k. leb 3 (role_of k) && leb (role_of k) 6) 8 134 q all-names l (omega arith)) in
    (leb-true 3 (role_of q) e.0, leb-true (role_of q) 6 e.1)
