-- What is consulted, and that it is enough.
use Prim.Native.Nat.{ℕ, zero, suc, ◌^◌, ◌≤◌, ◌<◌, min}
use mathlib.Core.List.{List}
use mathlib.Core.Bool.{Bool, true, false, ◌&&◌, ◌||◌, not, cond}
use mathlib.Core.Path.{◌≡◌, refl, sym, ap, ◌∙◌}
use native.Mathlib.Omega.{arith}
use lib.ListN.{length, get_or}
use lib.Dec.{leb, ltb, eqb}
use borrow.Author.Tests.{eqb-true, eqb-false, ltb-true, lt-ltb, le-ltb, leb-true, leb-false}
use Rattle.sets.specs.Loops.{all, some, turns}
use Rattle.sets.specs.Sets.{has, Within, collect, union, minus, beyond, first, among}
use Rattle.sets.proofs.Loops.{and-true, and_no, or-false, or-true, all_true, true-all, all_same, some-none, none-some, some_same}
use Rattle.sets.proofs.Members.{has-zero, has-collect, has-not, collect-same, by_members}
use Rattle.sets.proofs.Least.{first-has, first-lt}
use Rattle.sets.proofs.Below.{within_has, never}
use Rattle.choice.specs.Choice.{none_taken, chosen, chosen_from, held, chosen_under}
use Rattle.choice.specs.declared.Choice.{Choice}
use Rattle.choice.proofs.Laws.{consulted-enough}
use Rattle.index.specs.Building.{leaving_at, index_of}
use Rattle.index.specs.Consulting.{is_index, consulted, consultable}
use Rattle.index.proofs.building.Laws.{index_at}

-- ---- what is consulted

-- without an index all, of n
pub all-consulted : (n active s : ℕ) (index : List ℕ) → length index < 64 → s ≡ minus 18446744073709551615 (beyond n) → s ≡ consulted n index active
unfolding consulted
all-consulted n active s index l e = e ∙ collect-same _ _ 64 (λ t m. rw (lt-ltb (length index) 64 l, has-collect (λ k. leb n k) 64 t m, every t m) (go t (leb n t) refl))
  where
    every : (t : ℕ) → t < 64 → has 18446744073709551615 t ≡ true
    every t m = has-not 0 t (omega arith) m ∙ ap not (has-zero t)

    go : (t : ℕ) (b : Bool) → leb n t ≡ b → not b ≡ ltb t n
    go t true q = sym (le-ltb t n (leb-true n t q))
    go t false q = sym (lt-ltb t n (leb-false n t q))

-- step k's word with the others
abbrev pub joining : List ℕ → ℕ → ℕ → ℕ
joining index k s = union s (get_or index k 0)

module _ (index : List ℕ) (active : ℕ) where
  -- of the first n steps
  joined-so-far : (n : ℕ) → turns (among active (joining index)) 0 n ≡ collect (λ t. some (λ k. has active k && has (get_or index k 0) t) n) 64
  unfolding turns some
  joined-so-far zero = by_members 0 _ (omega arith) (λ j l. has-zero j)
  joined-so-far (suc n) = go (has active n) refl (joined-so-far n)
    where
      go : (b : Bool) → has active n ≡ b → turns (among active (joining index)) 0 n ≡ collect (λ t. some (λ k. has active k && has (get_or index k 0) t) n) 64
          → cond b (joining index n (turns (among active (joining index)) 0 n)) (turns (among active (joining index)) 0 n) ≡ collect (λ t. some (λ k. has active k && has (get_or index k 0) t) n || (has active n && has (get_or index n 0) t)) 64
      go true e again = collect-same _ _ 64 (λ t l. rw e (ap (λ (b : Bool). b || has (get_or index n 0) t) (ap (λ (s : ℕ). has s t) again ∙ has-collect _ 64 t l)))
      go false e again = again ∙ collect-same _ _ 64 (λ t l. rw e (sym (or-false _)))

  pub some-consulted : (n : ℕ) → 64 ≤ length index → turns (among active (joining index)) 0 64 ≡ consulted n index active
  unfolding consulted
  some-consulted n l = joined-so-far 64 ∙ rw (le-ltb (length index) 64 l)

-- ---- the index that was built beside the one that is lent

pub same_index : (n : ℕ) (sources index own : List ℕ) (r : Bool) → length index ≡ 64 → own ≡ index_of n sources → r ≡ all (λ k. eqb (get_or index k 0) (get_or own k 0)) 64 → r ≡ is_index n sources index
same_index n sources index own r l e h = h ∙ rw l (all_same _ _ 64 (λ k m. ap (eqb (get_or index k 0)) (ap (λ (o : List ℕ). get_or o k 0) e ∙ index_at sources n k m)))

-- ---- what is consulted is enough

module _ (n : ℕ) (sources index : List ℕ) (active : ℕ) (c : consultable n sources index ≡ true) where
  abbrev set : ℕ
  set = consulted n index active

  -- with an index: the words that leave, and each transition has a source
  record Leaves : Type 0 where
    words : (k : ℕ) → k < 64 → get_or index k 0 ≡ leaving_at n sources k
    some-source : (t : ℕ) → t < n → some (λ k. has (get_or sources t 0) k) 64 ≡ true
    members : (t : ℕ) → t < 64 → has set t ≡ some (λ k. has active k && (ltb t n && has (get_or sources t 0) k)) 64

  leaves : ltb (length index) 64 ≡ false → Leaves
  unfolding consulted
  leaves e =
      let both = and-true (is_index n sources index) _ (rw e at c) in
      let own : (k : ℕ) → k < 64 → get_or index k 0 ≡ leaving_at n sources k = λ k l. eqb-true _ _ (all_true (λ k. eqb (get_or index k 0) (leaving_at n sources k)) 64 (and-true (eqb (length index) 64) _ both.0).1 k l) in
      record {
        words = own;
        some-source = all_true (λ t. some (λ k. has (get_or sources t 0) k) 64) n both.1;
        members = λ t l. has-collect _ 64 t l ∙ rw e (some_same _ _ 64 (λ k m. ap (λ (x : ℕ). has active k && has x t) (own k m) ∙ ap (λ (b : Bool). has active k && b) (has-collect _ 64 t l)));
      }

  all-members : ltb (length index) 64 ≡ true → (t : ℕ) → t < 64 → has set t ≡ ltb t n
  unfolding consulted
  all-members e t l = has-collect _ 64 t l ∙ rw e

  -- only transitions that there are
  pub consulted-only : (t : ℕ) → t < 64 → has set t ≡ true → t < n
  consulted-only t l h = go (ltb (length index) 64) refl
    where
      go : (b : Bool) → ltb (length index) 64 ≡ b → t < n
      go true e = ltb-true t n (sym (all-members e t l) ∙ h)
      go false e = is (ltb t n) refl
        where
          is : (b : Bool) → ltb t n ≡ b → t < n
          is true q = ltb-true t n q
          is false q = never (sym (none-some _ 64 (λ k m. rw q (and_no (has active k)))) ∙ sym ((leaves e).members t l) ∙ h)

  -- and of those each whose sources are all active: any other one has reason 1
  pub consulted-leave : (t : ℕ) → t < 64 → t < n → has set t ≡ false → Within (get_or sources t 0) active ≡ false
  consulted-leave t l m h = go (ltb (length index) 64) refl
    where
      go : (b : Bool) → ltb (length index) 64 ≡ b → Within (get_or sources t 0) active ≡ false
      go true e = never (sym h ∙ all-members e t l ∙ lt-ltb t n m)
      go false e = is (Within (get_or sources t 0) active) refl
        where
          not-source : (k : ℕ) → k < 64 → Within (get_or sources t 0) active ≡ true → (b : Bool) → has (get_or sources t 0) k ≡ b → b ≡ false
          not-source k o w true q = rw (within_has (get_or sources t 0) active w k o q, lt-ltb t n m, q) at (some-none _ 64 (sym ((leaves e).members t l) ∙ h) k o)
          not-source k o w false q = refl

          is : (b : Bool) → Within (get_or sources t 0) active ≡ b → b ≡ false
          is true w = sym ((leaves e).some-source t m) ∙ none-some _ 64 (λ k o. not-source k o w (has (get_or sources t 0) k) refl)
          is false w = refl

-- so the same ones are taken
pub taken-by : (hold edition n : ℕ) (sources targets on off wait counts index : List ℕ) (active signals set : ℕ) (ch : Choice) → held hold ≡ false → consultable n sources index ≡ true
    → set ≡ consulted n index active → ch ≡ chosen_from edition set sources targets on off wait counts active signals
    → ch ≡ chosen_under hold edition (min n 64) sources targets on off wait counts active signals
taken-by hold edition n sources targets on off wait counts index active signals set ch free c e h =
    h
    ∙ ap (λ (s : ℕ). chosen_from edition s sources targets on off wait counts active signals) e
    ∙ consulted-enough edition sources targets on off wait counts active signals (min n 64) (consulted n index active) (omega arith)
    (λ t l m. omega (arith, consulted-only n sources index active c t l m)) (λ t l m. consulted-leave n sources index active c t (omega arith) (omega arith) m)
    ∙ ap (λ (b : Bool). cond b none_taken (chosen edition (min n 64) sources targets on off wait counts active signals)) (sym free)

-- ---- a chart that passed its test, with an index that passed its own, can be consulted so

pub is-consultable : (n : ℕ) (sources index : List ℕ) → n ≤ 64 → (eqb (length index) 0 || is_index n sources index) ≡ true → ((t : ℕ) → t < n → get_or sources t 0 ≡ 0 → ⊥)
    → ((length index ≡ 0 → ⊥) → all (λ t. ltb (get_or sources t 0) (2 ^ 64)) (min n 64) ≡ true) → consultable n sources index ≡ true
is-consultable n sources index l fits some-source word = go (eqb (length index) 0) refl
  where
    has-source : all (λ t. ltb (get_or sources t 0) (2 ^ 64)) (min n 64) ≡ true → (t : ℕ) → t < n → some (λ k. has (get_or sources t 0) k) 64 ≡ true
    has-source w t m = is (some (λ k. has (get_or sources t 0) k) 64) refl
      where
        small : get_or sources t 0 < 2 ^ 64
        small = ltb-true _ _ (all_true (λ t. ltb (get_or sources t 0) (2 ^ 64)) (min n 64) w t (omega arith))

        is : (b : Bool) → some (λ k. has (get_or sources t 0) k) 64 ≡ b → b ≡ true
        is true e = refl
        is false e = sym (some-none _ 64 e (first (get_or sources t 0)) (first-lt (get_or sources t 0) small (some-source t m) 64 small)) ∙ first-has (get_or sources t 0) small (some-source t m)

    go : (b : Bool) → eqb (length index) 0 ≡ b → consultable n sources index ≡ true
    go true e = rw (eqb-true (length index) 0 e)
    go false e =
        let own = rw e at fits in
        rw (own, true-all (λ t. some (λ k. has (get_or sources t 0) k) 64) n (has-source (word (eqb-false (length index) 0 e)))) (or-true (ltb (length index) 64))
