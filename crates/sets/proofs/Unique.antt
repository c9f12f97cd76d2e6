-- Two answers that one statement allows are equal: the general law, and a line for each public function.
use Prim.Native.Nat.{ℕ, ◌%◌}
use mathlib.Core.Bool.{Bool, cond}
use mathlib.Core.Path.{◌≡◌, sym, ◌∙◌}
use Rattle.sets.specs.Sets.{has, Within, Apart, Below, union, inter, minus, insert, beyond, first, remove, size}

pub one_answer : {A : Type 0} {x r q : A} → r ≡ x → q ≡ x → r ≡ q
one_answer e f = e ∙ sym f

pub is-in-unique : (s k : ℕ) (r q : Bool) → r ≡ has s k → q ≡ has s k → r ≡ q
is-in-unique s k r q = one_answer

pub is-within-unique : (a b : ℕ) (r q : Bool) → r ≡ Within a b → q ≡ Within a b → r ≡ q
is-within-unique a b r q = one_answer

pub is-apart-unique : (a b : ℕ) (r q : Bool) → r ≡ Apart a b → q ≡ Apart a b → r ≡ q
is-apart-unique a b r q = one_answer

pub names-below-unique : (s n : ℕ) (r q : Bool) → r ≡ Below s n → q ≡ Below s n → r ≡ q
names-below-unique s n r q = one_answer

pub without-unique : (a b r q : ℕ) → r ≡ minus a b → q ≡ minus a b → r ≡ q
without-unique a b r q = one_answer

pub with-unique : (s k r q : ℕ) → r ≡ insert s k → q ≡ insert s k → r ≡ q
with-unique s k r q = one_answer

pub joined-unique : (a b r q : ℕ) → r ≡ union a b → q ≡ union a b → r ≡ q
joined-unique a b r q = one_answer

pub common-unique : (a b r q : ℕ) → r ≡ inter a b → q ≡ inter a b → r ≡ q
common-unique a b r q = one_answer

pub with-if-unique : (s k : ℕ) (b : Bool) (r q : ℕ) → r ≡ cond b (insert s k) s → q ≡ cond b (insert s k) s → r ≡ q
with-if-unique s k b r q = one_answer

pub is-in-mod-unique : (s k : ℕ) (r q : Bool) → r ≡ has s (k % 64) → q ≡ has s (k % 64) → r ≡ q
is-in-mod-unique s k r q = one_answer

pub with-if-mod-unique : (s k : ℕ) (b : Bool) (r q : ℕ) → r ≡ cond b (insert s (k % 64)) s → q ≡ cond b (insert s (k % 64)) s → r ≡ q
with-if-mod-unique s k b r q = one_answer

pub beyond-unique : (n r q : ℕ) → r ≡ beyond n → q ≡ beyond n → r ≡ q
beyond-unique n r q = one_answer

pub size-unique : (s r q : ℕ) → r ≡ size s → q ≡ size s → r ≡ q
size-unique s r q = one_answer

pub first-unique : (s r q : ℕ) → r ≡ first s → q ≡ first s → r ≡ q
first-unique s r q = one_answer

pub without-first-unique : (s r q : ℕ) → r ≡ remove s (first s) → q ≡ remove s (first s) → r ≡ q
without-first-unique s r q = one_answer
