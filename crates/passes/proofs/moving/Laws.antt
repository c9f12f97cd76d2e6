-- The signals of a cycle by members, and the marks of its cases.
use Rattle.std.proofs.Common.{◌≡◌, ℕ, zero, suc, ◌+◌, ◌-◌, ◌*◌, ◌%◌, ◌^◌, ◌<◌, Bool, true, false, cond, not, ◌||◌, ltb, List, get_or, refl, ap, ◌∙◌, ap₂, mod-lt, mod-eq_of_lt, arith, pow_pos, ltb-false, ltb-true}
use lib.Bits.{bit_or, or_lt}
use Rattle.sets.specs.Sets.{has, collect, insert}
use Rattle.sets.proofs.Loops.{or-false}
use Rattle.sets.proofs.Members.{has-zero, collect-start, collect-turn, by_members, has-or, has-high, has-mod, has-shl-low, has-shl-high}
use Rattle.passes.specs.Moving.{as_expected, good_at, bad_at, marks_of, signals_of}

pub or-shl-signals : (inputs activity : ℕ) → inputs < 2 ^ 32 → bit_or inputs (activity * 2 ^ 32 % 2 ^ 64) ≡ signals_of inputs activity
or-shl-signals i a hi =
    by_members (bit_or i (a * 2 ^ 32 % 2 ^ 64)) (λ k. cond (ltb k 32) (has i k) (has a (k - 32))) (or_lt 64 i _ (omega arith) (mod-lt _ (pow_pos 64)))
    (λ k l. has-or i _ k ∙ ap (λ (x : Bool). has i k || x) (has-mod 64 (a * 2 ^ 32) k l) ∙ one k (ltb k 32) refl)
  where
    one : (k : ℕ) (t : Bool) → ltb k 32 ≡ t → (has i k || has (a * 2 ^ 32) k) ≡ cond t (has i k) (has a (k - 32))
    one k true e = ap (λ (x : Bool). has i k || x) (has-shl-low a 32 k (ltb-true k 32 e)) ∙ or-false (has i k)
    one k false e =
        ap₂ ◌||◌ (has-high 32 i k hi (ltb-false k 32 e)) (has-shl-high a 32 k (ltb-false k 32 e))

-- where nothing was left no case is marked
none-collected : (p : ℕ → Bool) (n : ℕ) → ((k : ℕ) → p k ≡ false) → 0 ≡ collect p n
unfolding collect
none-collected p zero h = refl
none-collected p (suc n) h = rw (h n, ← none-collected p n h)

pub none_left : (n : ℕ) (step signal expected : List ℕ) (left signals : ℕ) → left ≡ 0 → record { good = 0; bad = 0 } ≡ marks_of n step signal expected left signals
unfolding marks_of
none_left n step signal expected left signals e =
    rw e
    (ap₂ (λ (x y : ℕ). record { good = x; bad = y })
    (none-collected (λ i. good_at (get_or step i 0) (get_or signal i 0) (get_or expected i 0) 0 signals) n (λ k. rw (has-zero (get_or step k 0))))
    (none-collected (λ i. bad_at (get_or step i 0) (get_or signal i 0) (get_or expected i 0) 0 signals) n (λ k. rw (has-zero (get_or step k 0)))))

module _ (step signal expected : List ℕ) (left signals : ℕ) where
  -- g and b are the marks of the first i cases
  pub record Marked (i g b : ℕ) : Type 0 where
    pub goods : g ≡ collect (λ j. good_at (get_or step j 0) (get_or signal j 0) (get_or expected j 0) left signals) i
    pub bads : b ≡ collect (λ j. bad_at (get_or step j 0) (get_or signal j 0) (get_or expected j 0) left signals) i

  pub none-marked : Marked 0 0 0
  none-marked = record { goods = collect-start _; bads = collect-start _ }

  -- one case more: s is its step, which was left or not
  module _ (i g b g' b' s : ℕ) (on : Bool) (l : i < 64) (m : Marked i g b) (e : s ≡ get_or step i 0) (o : on ≡ has left s) where
    pub one-marked : (t : ℕ) (fine : Bool) → on ≡ true → t ≡ get_or signal i 0 → fine ≡ as_expected t (get_or expected i 0) signals
        → g' ≡ cond fine (insert g (i % 64)) g → b' ≡ cond (not fine) (insert b (i % 64)) b → Marked (i + 1) g' b'
    one-marked t fine h q f x y = record {
      goods = collect-turn _ i g g' fine l m.goods (rw (← e, ← o, h, ← q) f) (rw (mod-eq_of_lt l) at x);
      bads = collect-turn _ i b b' (not fine) l m.bads (rw (← e, ← o, h, ← q) (ap not f)) (rw (mod-eq_of_lt l) at y);
    }

    pub one-passed : on ≡ false → g' ≡ g → b' ≡ b → Marked (i + 1) g' b'
    one-passed h x y = record {
      goods = collect-turn _ i g g' false l m.goods (rw (← e, ← o, h)) x;
      bads = collect-turn _ i b b' false l m.bads (rw (← e, ← o, h)) y;
    }

  pub all-marked : (n i g b : ℕ) → Marked i g b → i ≡ n → record { good = g; bad = b } ≡ marks_of n step signal expected left signals
  unfolding marks_of
  all-marked n i g b m e = rw (m.goods, m.bads, e)
