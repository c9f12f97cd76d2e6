-- A table whose entries fit or are refused 5 is tested by one test of all.
use Prim.Native.Nat.{ℕ, zero, suc, ◌+◌, ◌≤◌, ◌<◌, min, max}
use mathlib.Core.List.{List}
use mathlib.Core.Bool.{Bool, true, false, ◌&&◌, ◌||◌}
use mathlib.Core.Path.{◌≡◌, refl, sym, ap, ap₂, ◌∙◌}
use native.Mathlib.Numerals.{add-one}
use native.Mathlib.Omega.{arith}
use lib.ListN.{length, get_or, get_or-eq_default, take}
use Rattle.std.proofs.lemmas.List.{get_or-take, length-take-le}
use lib.Dec.{leb, ltb, eqb}
use borrow.Author.Tests.{le-leb, lt-leb, leb-true, leb-false, lt-ltb, ltb-true, eq-eqb, ne_eqb, eqb-true, eqb-false}
use Rattle.sets.specs.Loops.{all, some, first_code}
use Rattle.sets.proofs.Loops.{first-by-test, and-true, some_same, some-capped, all_both, all_same, and_yes, and_no}
use Rattle.fields.specs.Fields.{timed, unless}
use Rattle.chart.specs.Held.{limits_fit, largest, block_names_at, duration_fits_at, block_fits_at, blocks_code, case_fits_at, cases_code, initial_at, some_initial, timed_for, timed_again, timed_twice}

test-code : (p : ℕ → Bool) (n : ℕ) {fit : Bool} → fit ≡ all p n → unless fit 5 ≡ first_code (λ k. unless (p k) 5) n
test-code p n e = ap (λ (x : Bool). unless x 5) e ∙ sym (first-by-test 5 p n (λ z. omega arith))

-- ---- the largest of a table's numbers

pub largest-start : (table : List ℕ) → 0 ≡ largest 0 table
unfolding largest
largest-start table = refl

pub largest-turn : (table : List ℕ) (i : ℕ) {most next : ℕ} → most ≡ largest i table → next ≡ max most (get_or table i 0) → next ≡ largest (i + 1) table
unfolding largest
largest-turn table i e f = rw (add-one, ← e) f

-- of the first numbers of a table
pub largest-front : (n : ℕ) (table : List ℕ) → n ≤ length table → largest (length (take n table)) (take n table) ≡ largest n table
unfolding largest
largest-front n table h = rw (length-take-le n table h) (front n (omega arith))
  where
    front : (k : ℕ) → k ≤ n → largest k (take n table) ≡ largest k table
    front zero l = refl
    front (suc k) l = rw (front k (omega arith), get_or-take n table k 0 (omega arith))

-- a limit that it keeps, all of them keep
largest-all : (m n : ℕ) (table : List ℕ) → leb (largest n table) m ≡ all (λ i. leb (get_or table i 0) m) n
unfolding largest all
largest-all m zero table = le-leb 0 m (omega arith)
largest-all m (suc n) table = both (largest n table) (get_or table n 0) ∙ ap (λ (x : Bool). x && leb (get_or table n 0) m) (largest-all m n table)
  where
    both : (a b : ℕ) → leb (max a b) m ≡ leb a m && leb b m
    both a b = go (leb a m) (leb b m) refl refl
      where
        go : (x y : Bool) → leb a m ≡ x → leb b m ≡ y → leb (max a b) m ≡ x && y
        go true true e f = le-leb _ m (omega (arith, leb-true a m e, leb-true b m f))
        go true false e f = lt-leb _ m (omega (arith, leb-false b m f))
        go false y e f = lt-leb _ m (omega (arith, leb-false a m e))

pub largest-code : (m n : ℕ) (table : List ℕ) → unless (leb (largest n table) m) 5 ≡ first_code (λ i. unless (leb (get_or table i 0) m) 5) n
largest-code m n table = test-code (λ i. leb (get_or table i 0) m) n (largest-all m n table)

largest-one : (n : ℕ) (table : List ℕ) → largest n table ≤ 1 → eqb (largest n table) 1 ≡ some (λ i. eqb (get_or table i 0) 1) n
unfolding largest some
largest-one zero table h = refl
largest-one (suc n) table h =
    go (largest n table) (get_or table n 0) h (eqb (largest n table) 1) (eqb (get_or table n 0) 1) refl refl
    ∙ ap (λ (x : Bool). x || eqb (get_or table n 0) 1) (largest-one n table (omega arith))
  where
    go : (a b : ℕ) → max a b ≤ 1 → (x y : Bool) → eqb a 1 ≡ x → eqb b 1 ≡ y → eqb (max a b) 1 ≡ x || y
    go a b l true y e f = let q = eqb-true a 1 e in eq-eqb (max a b) 1 (omega arith)
    go a b l false true e f = let q = eqb-true b 1 f in eq-eqb (max a b) 1 (omega arith)
    go a b l false false e f = let x = eqb-false a 1 e in let y = eqb-false b 1 f in ne_eqb (max a b) 1 (λ m. omega arith)

-- where all marks fit, the largest tells whether one is 1
pub mark-tells : (n : ℕ) (initial : List ℕ) → 0 ≡ unless (leb (largest n initial) 1) 5 → eqb (largest n initial) 1 ≡ some_initial n initial
unfolding some_initial
mark-tells n initial h = go (leb (largest n initial) 1) refl h
  where
    go : (fit : Bool) → leb (largest n initial) 1 ≡ fit → 0 ≡ unless fit 5 → eqb (largest n initial) 1 ≡ some (initial_at initial) n
    go true e z = largest-one n initial (leb-true _ 1 e)
    go false e z = absurd (omega arith)

-- ---- the tests by columns

-- every signal that exists is below 64
pub case-bytes : (s a : ℕ) (cs sg ex : List ℕ) (i : ℕ) → a ≤ 32 → ltb (get_or cs i 0) s && ltb (get_or sg i 0) (32 + a) && leb (get_or ex i 0) 1 ≡ case_fits_at s a cs sg ex i
case-bytes s a cs sg ex i h = ap (λ (x : Bool). x && leb (get_or ex i 0) 1) (go (ltb (get_or cs i 0) s) (get_or sg i 0) _ refl)
  where
    go : (x : Bool) (k : ℕ) (b : Bool) → ltb k (32 + a) ≡ b → x && b ≡ x && ltb k 64 && b
    go x k true e = rw (lt-ltb k 64 (omega (arith, ltb-true k (32 + a) e))) (and_yes (x && true))
    go x k false e = and_no x ∙ sym (and_no (x && ltb k 64))

-- the three tests of all the cases are one test of each
pub cases-columns : (n s a : ℕ) (cs sg ex : List ℕ) → a ≤ 32
    → unless (all (λ i. ltb (get_or cs i 0) s) n && all (λ i. ltb (get_or sg i 0) (32 + a)) n && all (λ i. leb (get_or ex i 0) 1) n) 5 ≡ cases_code n s a cs sg ex
unfolding cases_code
cases-columns n s a cs sg ex h =
    test-code (case_fits_at s a cs sg ex) n
    (ap (λ (x : Bool). x && all (λ i. leb (get_or ex i 0) 1) n) (all_both _ _ n) ∙ all_both _ _ n ∙ all_same _ _ n (λ i l. case-bytes s a cs sg ex i h))

-- the two tests of all the blocks are one test of each
pub columns-code : (n s a : ℕ) (bs ba q d : List ℕ) → unless (all (block_names_at s a bs ba q) n && all (duration_fits_at q d) n) 5 ≡ blocks_code n s a bs ba q d
unfolding blocks_code
columns-code n s a bs ba q d = test-code (block_fits_at s a bs ba q d) n (all_both (block_names_at s a bs ba q) (duration_fits_at q d) n)

-- ---- the counts within their limits

pub record Limits (s a t b c : ℕ) : Type 0 where
  pub steps : s ≤ 64
  pub actions : a ≤ 32
  pub transitions : t ≤ 64
  pub blocks : b ≤ 256
  pub cases : c ≤ 64

pub limits : (s a t b c : ℕ) → limits_fit s a t b c ≡ true → Limits s a t b c
limits s a t b c e =
    let d = and-true _ (leb c 64) e in
    let h = and-true _ (leb b 256) d.0 in
    let k = and-true _ (leb t 64) h.0 in
    let l = and-true (leb s 64) (leb a 32) k.0 in
    record { steps = leb-true _ _ l.0; actions = leb-true _ _ l.1; transitions = leb-true _ _ k.1; blocks = leb-true _ _ h.1; cases = leb-true _ _ d.1 }

-- ---- counts beyond their tables: what a table has no entry for is 0, no initial step and no timed block

pub initial-within : (n : ℕ) (initial : List ℕ) → some_initial (min n (length initial)) initial ≡ some_initial n initial
unfolding some_initial
initial-within n initial = some-capped (initial_at initial) (length initial) n (λ k l. rw (get_or-eq_default initial 0 l))

pub twice-within : (n : ℕ) (action qualifier : List ℕ) → timed_twice (min n (length qualifier)) action qualifier ≡ timed_twice n action qualifier
unfolding timed_twice
twice-within n action qualifier = some-capped (timed_again action qualifier) (length qualifier) n (λ k l. rw (get_or-eq_default qualifier 0 l))

-- ---- tables with the same actions and the same timed blocks

pub twice_same : (n : ℕ) (a a' q q' : List ℕ) → ((i : ℕ) → i < n → get_or a i 0 ≡ get_or a' i 0) → ((i : ℕ) → i < n → timed (get_or q i 0) ≡ timed (get_or q' i 0))
    → timed_twice n a q ≡ timed_twice n a' q'
unfolding timed_twice timed_for
twice_same n a a' q q' e f =
    some_same (timed_again a q) (timed_again a' q') n
    (λ i h. ap₂ ◌&&◌ (f i h) (some_same _ _ i (λ j k. ap₂ ◌&&◌ (f j (omega arith)) (ap₂ eqb (e j (omega arith)) (e i h)))))
