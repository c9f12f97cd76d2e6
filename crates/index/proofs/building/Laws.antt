-- The index, transition after transition.
use Prim.Native.Nat.{ℕ, ◌+◌, ◌<◌, min}
use mathlib.Core.List.{List}
use mathlib.Core.Bool.{Bool, true, false, ◌&&◌, ◌||◌, cond}
use mathlib.Core.Path.{◌≡◌, refl, ap, ◌∙◌}
use native.Mathlib.Omega.{arith}
use lib.ListN.{length, get_or, replicate, get_or-replicate}
use lib.Dec.{ltb, eqb}
use borrow.Author.Tests.{eqb-true, eqb-false, lt-ltb, le-ltb}
use Rattle.sets.specs.Sets.{has, insert}
use Rattle.sets.proofs.Loops.{or-false, length-table, get_or-table, is-table}
use Rattle.sets.proofs.Members.{has-zero, has-collect, collect-same, by_members}
use Rattle.choice.proofs.Laws.{ltb-same}
use Rattle.index.specs.Building.{leaving_at, index_of, entered_in}

module _ (sources : List ℕ) where
  pub index-long : (n : ℕ) → length (index_of n sources) ≡ 64
  unfolding index_of
  index-long n = length-table (leaving_at n sources) 64

  pub index_at : (n k : ℕ) → k < 64 → get_or (index_of n sources) k 0 ≡ leaving_at n sources k
  unfolding index_of
  index_at n k l = get_or-table (leaving_at n sources) 64 k 0 l

  is-index : (n : ℕ) (l : List ℕ) → length l ≡ 64 → ((k : ℕ) → k < 64 → get_or l k 0 ≡ leaving_at n sources k) → l ≡ index_of n sources
  unfolding index_of
  is-index n l h f = is-table (leaving_at n sources) 64 l 0 h f

  pub none-entered : replicate 64 0 ≡ index_of 0 sources
  none-entered = is-index 0 (replicate 64 0) refl (λ k l. get_or-replicate 64 k 0 0 l ∙ by_members 0 _ (omega arith) (λ j m. has-zero j ∙ rw (le-ltb j 0 (omega arith))))

  -- step k's word with transition t
  one_word : (t k : ℕ) (b : Bool) → t < 64 → has (get_or sources t 0) k ≡ b → cond b (insert (leaving_at t sources k) t) (leaving_at t sources k) ≡ leaving_at (t + 1) sources k
  one_word t k true m e = collect-same _ _ 64 (λ j l. ap (λ (x : Bool). x || eqb j t) (has-collect _ 64 j l) ∙ go j (eqb j t) refl)
    where
      go : (j : ℕ) (b : Bool) → eqb j t ≡ b → (ltb j t && has (get_or sources j 0) k) || b ≡ (ltb j (t + 1) && has (get_or sources j 0) k)
      go j true q = rw (eqb-true j t q, e, lt-ltb t (t + 1) (omega arith), le-ltb t t (omega arith))
      go j false q = let n = eqb-false j t q in or-false _ ∙ ap (λ (x : Bool). x && has (get_or sources j 0) k) (ltb-same j t (t + 1) (λ x. omega arith) (λ x. omega arith))
  one_word t k false m e = collect-same _ _ 64 (λ j l. go j (eqb j t) refl)
    where
      go : (j : ℕ) (b : Bool) → eqb j t ≡ b → (ltb j t && has (get_or sources j 0) k) ≡ (ltb j (t + 1) && has (get_or sources j 0) k)
      go j true q = rw (eqb-true j t q, e, lt-ltb t (t + 1) (omega arith), le-ltb t t (omega arith))
      go j false q = let n = eqb-false j t q in ap (λ (x : Bool). x && has (get_or sources j 0) k) (ltb-same j t (t + 1) (λ x. omega arith) (λ x. omega arith))

  pub one-entered : (t : ℕ) (l next : List ℕ) → t < 64 → l ≡ index_of t sources → next ≡ entered_in l t (get_or sources t 0) → next ≡ index_of (t + 1) sources
  one-entered t l next m e f =
      f ∙ is-index (t + 1) (entered_in l t (get_or sources t 0)) (length-table _ 64) (λ k n. get_or-table _ 64 k 0 n ∙ rw (e, index_at t k n) (one_word t k (has (get_or sources t 0) k) m refl))

  -- there is room for 64, and so for all
  pub all-entered : (n t : ℕ) (l : List ℕ) → l ≡ index_of t sources → t ≡ min n 64 → l ≡ index_of n sources
  all-entered n t l e h =
      e ∙ is-index n (index_of t sources) (index-long t) (λ k m. index_at t k m ∙ collect-same _ _ 64 (λ j o. ap (λ (x : Bool). x && has (get_or sources j 0) k) (ltb-same j t n (λ x. omega arith) (λ x. omega arith))))
