-- Laws of loops: what one turn more makes of what is in hand, and what holds where the loop ends.
use mathlib.Core.Path.{◌≡◌, refl, sym, ap, ap₂, ◌∙◌}
use mathlib.Core.Bool.{Bool, true, false, ◌&&◌, ◌||◌, cond}
use mathlib.Core.Logic.{⊎_elim}
use mathlib.Core.List.{List}
use Prim.Native.Nat.{ℕ, zero, suc, ◌+◌, ◌-◌, ◌≤◌, ◌<◌, min}
use native.Mathlib.Nat.{eq-or-lt_of_le, le_of_suc-le-suc, le_antisymm, zero-add, suc-add}
use native.Mathlib.Numerals.{add-one}
use native.Mathlib.Omega.{arith}
use lib.Dec.{leb, eqb}
use lib.ListN.{length, get_or, set, length-set}
use lib.Seq.{ext_get_or, get_or-set_same, get_or-set_other}
use borrow.Author.Tests.{leb-true, leb-false, eq-eqb, ne_eqb, eqb-true, eqb-false}
use Rattle.sets.specs.Loops.{all, some, or_else, first_code, table_from, table, turns}

-- ---- Bool

pub bool_eq : (x y : Bool) → (x ≡ true → y ≡ true) → (y ≡ true → x ≡ true) → x ≡ y
bool_eq true y f g = sym (f refl)
bool_eq false true f g = g refl
bool_eq false false f g = refl

pub and-true : (x y : Bool) → x && y ≡ true → (x ≡ true) × (y ≡ true)
and-true true y h = (refl, h)
and-true false y h = (h, (cc))

pub or-false : (b : Bool) → b || false ≡ b
or-false true = refl
or-false false = refl

pub or-true : (b : Bool) → b || true ≡ true
or-true true = refl
or-true false = refl

pub and_yes : (b : Bool) → b ≡ (b && true)
and_yes true = refl
and_yes false = refl

pub and_no : (b : Bool) → b && false ≡ false
and_no true = refl
and_no false = refl

pub and_assoc : (x y z : Bool) → x && (y && z) ≡ (x && y) && z
and_assoc true y z = refl
and_assoc false y z = refl

-- a test of three parts, as a loop's code joins it to what is in hand
pub and-three : (ok a b c : Bool) → ok && a && b && c ≡ ok && (a && b && c)
and-three true a b c = refl
and-three false a b c = refl

pub eqb-sym : (a b : ℕ) → eqb a b ≡ eqb b a
eqb-sym a b = bool_eq (eqb a b) (eqb b a) (λ e. eq-eqb b a (sym (eqb-true a b e))) (λ e. eq-eqb a b (sym (eqb-true b a e)))

-- ---- every number passed, or some

pub all_start : (p : ℕ → Bool) → true ≡ all p 0
unfolding all
all_start p = refl

pub all-turn : (p : ℕ → Bool) (k : ℕ) {ok b : Bool} → ok ≡ all p k → b ≡ p k → ok && b ≡ all p (k + 1)
unfolding all
all-turn p k e h = rw (add-one, e, h)

pub all_true : (p : ℕ → Bool) (n : ℕ) → all p n ≡ true → (k : ℕ) → k < n → p k ≡ true
unfolding all
all_true p zero h k l = absurd (omega arith)
all_true p (suc n) h k l =
    let both = and-true (all p n) (p n) h in
    ⊎_elim (λ e. ap p e ∙ both.1) (λ m. all_true p n both.0 k m) (eq-or-lt_of_le (le_of_suc-le-suc l))

pub true-all : (p : ℕ → Bool) (n : ℕ) → ((k : ℕ) → k < n → p k ≡ true) → all p n ≡ true
unfolding all
true-all p zero h = refl
true-all p (suc n) h = rw (true-all p n (λ k l. h k (omega arith)), h n (omega arith))

pub all-fails : (p : ℕ → Bool) (n k : ℕ) {b : Bool} → k < n → b ≡ p k → b ≡ false → false ≡ all p n
all-fails p n k {b} l q h = go (all p n) refl
  where
    go : (t : Bool) → all p n ≡ t → false ≡ t
    go true e = let z : p k ≡ true = all_true p n e k l in cc
    go false e = refl

pub all_same : (p q : ℕ → Bool) (n : ℕ) → ((k : ℕ) → k < n → p k ≡ q k) → all p n ≡ all q n
unfolding all
all_same p q zero h = refl
all_same p q (suc n) h = ap₂ ◌&&◌ (all_same p q n (λ k l. h k (omega arith))) (h n (omega arith))

-- two tests of all in one
pub all_both : (p q : ℕ → Bool) (n : ℕ) → all p n && all q n ≡ all (λ k. p k && q k) n
unfolding all
all_both p q zero = refl
all_both p q (suc n) = go (all p n) (p n) (all q n) (q n) ∙ ap (λ (x : Bool). x && (p n && q n)) (all_both p q n)
  where
    go : (a b c d : Bool) → (a && b) && (c && d) ≡ (a && c) && (b && d)
    go true true c d = refl
    go true false c d = sym (and_no c)
    go false b c d = refl

pub all_done : (p : ℕ → Bool) {n : ℕ} (k : ℕ) {ok : Bool} → ok ≡ all p k → n ≤ k → k ≤ n → ok ≡ all p n
all_done p k e a b = e ∙ ap (all p) (le_antisymm b a)

pub turns-end : {A : Type 0} (f : ℕ → A → A) (s : A) (n k : ℕ) (now : A) → now ≡ turns f s k → n ≤ k → k ≤ n → now ≡ turns f s n
turns-end f s n k now e a b = e ∙ ap (turns f s) (le_antisymm b a)

pub some-start : (p : ℕ → Bool) → false ≡ some p 0
unfolding some
some-start p = refl

pub some_turn : (p : ℕ → Bool) (k : ℕ) {any b : Bool} → any ≡ some p k → b ≡ p k → any || b ≡ some p (k + 1)
unfolding some
some_turn p k e h = rw (add-one, e, h)

pub neither : (x y : Bool) → x || y ≡ false → (x ≡ false) × (y ≡ false)
neither true y e = (e, (cc))
neither false y e = (refl, e)

pub some-none : (p : ℕ → Bool) (n : ℕ) → some p n ≡ false → (k : ℕ) → k < n → p k ≡ false
unfolding some
some-none p zero h k l = absurd (omega arith)
some-none p (suc n) h k l =
    let both = neither (some p n) (p n) h in
    ⊎_elim (λ e. ap p e ∙ both.1) (λ m. some-none p n both.0 k m) (eq-or-lt_of_le (le_of_suc-le-suc l))

pub none-some : (p : ℕ → Bool) (n : ℕ) → ((k : ℕ) → k < n → p k ≡ false) → some p n ≡ false
unfolding some
none-some p zero f = refl
none-some p (suc n) f = rw (none-some p n (λ k l. f k (omega arith)), f n (omega arith))

pub some_same : (p q : ℕ → Bool) (n : ℕ) → ((k : ℕ) → k < n → p k ≡ q k) → some p n ≡ some q n
unfolding some
some_same p q zero h = refl
some_same p q (suc n) h = ap₂ ◌||◌ (some_same p q n (λ k l. h k (omega arith))) (h n (omega arith))

-- what does not change from m on is after n turns what it is after the lesser of the two
pub capped : {A : Type 0} (f : ℕ → A) (m n : ℕ) → ((k : ℕ) → m ≤ k → f (suc k) ≡ f k) → f (min n m) ≡ f n
capped f m zero h = let none : min 0 m ≡ 0 = omega arith in rw none
capped f m (suc n) h = go (leb m n) refl (capped f m n h)
  where
    go : (t : Bool) → leb m n ≡ t → f (min n m) ≡ f n → f (min (suc n) m) ≡ f (suc n)
    go true e q =
        let l = leb-true m n e in
        let same : min (suc n) m ≡ min n m = omega arith in
        rw same q ∙ sym (h n l)
    go false e q = let l = leb-false m n e in let same : min (suc n) m ≡ suc n = omega arith in rw same

-- where p holds of none from m on, it is enough to look below m
pub some-capped : (p : ℕ → Bool) (m n : ℕ) → ((k : ℕ) → m ≤ k → p k ≡ false) → some p (min n m) ≡ some p n
unfolding some
some-capped p m n h = capped (some p) m n (λ k l. rw (h k l) (or-false (some p k)))

-- ---- the first number that is not 0

-- where it is none, both are 0
pub else-zero : (a b : ℕ) → or_else a b ≡ 0 → (a ≡ 0) × (b ≡ 0)
else-zero a b = go (eqb a 0) refl
  where
    go : (t : Bool) → eqb a 0 ≡ t → cond t b a ≡ 0 → (a ≡ 0) × (b ≡ 0)
    go true e h = (eqb-true a 0 e, h)
    go false e h = absurd (eqb-false a 0 e h)

-- and 0 behind a number changes nothing
pub else-none : (a : ℕ) → or_else a 0 ≡ a
else-none a = go (eqb a 0) refl
  where
    go : (b : Bool) → eqb a 0 ≡ b → cond b 0 a ≡ a
    go true e = sym (eqb-true a 0 e)
    go false e = refl

module _ (f : ℕ → ℕ) where
  pub first-start : first_code f 0 ≡ 0
  unfolding first_code
  first-start = refl

  pub first-turn : (i : ℕ) → first_code f i ≡ 0 → f i ≡ 0 → first_code f (i + 1) ≡ 0
  unfolding first_code
  first-turn i e z = rw (add-one, eq-eqb _ _ e) z

  stays : (k i c : ℕ) → first_code f i ≡ c → (c ≡ 0 → ⊥) → first_code f (k + i) ≡ c
  unfolding first_code
  stays zero i c e z = rw zero-add e
  stays (suc k) i c e z = rw (suc-add, stays k i c e z, ne_eqb _ _ z)

  here : (i c : ℕ) → first_code f i ≡ 0 → c ≡ f i → first_code f (suc i) ≡ c
  unfolding first_code
  here i c e q = rw (eq-eqb _ _ e, q)

  pub first_found : (i n c : ℕ) → first_code f i ≡ 0 → i < n → c ≡ f i → (c ≡ 0 → ⊥) → c ≡ first_code f n
  first_found i n c e l q z =
      let h : n - suc i + suc i ≡ n = omega arith in
      let r : first_code f (n - suc i + suc i) ≡ c = stays (n - suc i) (suc i) c (here i c e q) z in
      rw (rw h at r)

pub first-zero : (f : ℕ → ℕ) (n : ℕ) → first_code f n ≡ 0 → (i : ℕ) → i < n → f i ≡ 0
unfolding first_code
first-zero f zero e i l = absurd (omega arith)
first-zero f (suc n) e i l =
    let both = else-zero (first_code f n) (f n) e in
    ⊎_elim (λ q. ap f q ∙ both.1) (λ m. first-zero f n both.0 i m) (eq-or-lt_of_le (le_of_suc-le-suc l))

pub zero-first : (f : ℕ → ℕ) (n : ℕ) → all (λ i. eqb (f i) 0) n ≡ true → first_code f n ≡ 0
unfolding first_code all
zero-first f zero e = refl
zero-first f (suc n) e =
    let both = and-true (all (λ i. eqb (f i) 0) n) (eqb (f n) 0) e in
    rw (zero-first f n both.0) (eqb-true (f n) 0 both.1)

pub first-same : (f g : ℕ → ℕ) (n : ℕ) → ((i : ℕ) → i < n → f i ≡ g i) → first_code f n ≡ first_code g n
unfolding first_code
first-same f g zero h = refl
first-same f g (suc n) h = ap₂ or_else (first-same f g n (λ i l. h i (omega arith))) (h n (omega arith))

-- where each number is c or 0 by a test, one test of all tells
pub first-by-test : (c : ℕ) (p : ℕ → Bool) (n : ℕ) → (c ≡ 0 → ⊥) → first_code (λ i. cond (p i) 0 c) n ≡ cond (all p n) 0 c
unfolding first_code all
first-by-test c p zero h = refl
first-by-test c p (suc n) h = ap (λ (x : ℕ). or_else x (cond (p n) 0 c)) (first-by-test c p n h) ∙ go (all p n)
  where
    go : (b : Bool) → or_else (cond b 0 c) (cond (p n) 0 c) ≡ cond (b && p n) 0 c
    go true = refl
    go false = rw (ne_eqb _ _ h)

-- ---- a fold

pub turns-start : {A : Type 0} (f : ℕ → A → A) (s : A) → s ≡ turns f s 0
unfolding turns
turns-start f s = refl

pub turns_more : {A : Type 0} (f : ℕ → A → A) (s : A) (k : ℕ) (now next : A) → now ≡ turns f s k → next ≡ f k now → next ≡ turns f s (k + 1)
unfolding turns
turns_more f s k now next e n = n ∙ ap (f k) e ∙ rw add-one

-- what no turn changes stays as it is
pub turns-still : {A : Type 0} (f : ℕ → A → A) (s now : A) (m n : ℕ) → now ≡ turns f s m → ((j : ℕ) → f j now ≡ now) → m ≤ n → now ≡ turns f s n
unfolding turns
turns-still f s now m zero e h l = let none : m ≡ 0 = omega arith in e ∙ ap (turns f s) none
turns-still f s now m (suc n) e h l = go (leb m n) refl (turns-still f s now m n e h)
  where
    go : (t : Bool) → leb m n ≡ t → (m ≤ n → now ≡ turns f s n) → now ≡ turns f s (suc n)
    go true q before = sym (h n) ∙ ap (f n) (before (leb-true m n q))
    go false q before = let last : m ≡ suc n = omega (arith, leb-false m n q) in e ∙ ap (turns f s) last

-- ---- a table, written from the front over what was there

pub length-table_from : {A : Type 0} (f : ℕ → A) (k n : ℕ) → length (table_from f k n) ≡ n
unfolding table_from
length-table_from f k zero = refl
length-table_from f k (suc n) = ap suc (length-table_from f (suc k) n)

get_or-table_from : {A : Type 0} (f : ℕ → A) (k n i : ℕ) (d : A) → i < n → get_or (table_from f k n) i d ≡ f (k + i)
unfolding table_from
get_or-table_from f k zero i d h = absurd (omega arith)
get_or-table_from f k (suc n) zero d h = ap f (omega arith)
get_or-table_from f k (suc n) (suc i) d h = get_or-table_from f (suc k) n i d (omega arith) ∙ ap f (omega arith)

pub length-table : {A : Type 0} (f : ℕ → A) (n : ℕ) → length (table f n) ≡ n
length-table f n = length-table_from f 0 n

pub get_or-table : {A : Type 0} (f : ℕ → A) (n i : ℕ) (d : A) → i < n → get_or (table f n) i d ≡ f i
get_or-table f n i d h = get_or-table_from f 0 n i d h ∙ ap f (omega arith)

-- a list is the table of its elements
pub is-table : {A : Type 0} (f : ℕ → A) (n : ℕ) (l : List A) (d : A) → length l ≡ n → ((i : ℕ) → i < n → get_or l i d ≡ f i) → l ≡ table f n
is-table f n l d e h =
    ext_get_or d l (table f n) (e ∙ sym (length-table f n)) (λ i k. h i (rw e at k) ∙ sym (get_or-table f n i d (rw e at k)))

-- of a list l that is written from the front: as long as it was, and f i at each place passed
pub record Written {A : Type 0} (d : A) (f : ℕ → A) (n i : ℕ) (l : List A) : Type 0 where
  pub long : length l ≡ n
  pub passed : (j : ℕ) → j < i → get_or l j d ≡ f j

module _ {A : Type 0} (d : A) (f : ℕ → A) (n : ℕ) where
  pub written_start : (l : List A) → length l ≡ n → Written d f n 0 l
  written_start l e = record { long = e; passed = λ j h. absurd (omega arith) }

  pub written-turn : (i : ℕ) (l : List A) (v : A) → Written d f n i l → i < n → v ≡ f i → Written d f n (i + 1) (set l i v)
  written-turn i l v w h e = record {
    long = length-set l i v ∙ w.long;
    passed = λ j k. ⊎_elim (λ q. ap (λ (m : ℕ). get_or (set l i v) m d) q ∙ (let z = w.long in get_or-set_same l i v d (omega arith)) ∙ e ∙ ap f (sym q))
        (λ m. get_or-set_other l i j v d (λ q. omega arith) ∙ w.passed j m) (eq-or-lt_of_le (below i j k));
  }
    where
      below : (i j : ℕ) → j < i + 1 → j ≤ i
      below i j h = omega arith

  pub written-end : (i : ℕ) (l : List A) → Written d f n i l → n ≤ i → l ≡ table f n
  written-end i l w h = is-table f n l d w.long (λ j k. w.passed j (omega arith))
