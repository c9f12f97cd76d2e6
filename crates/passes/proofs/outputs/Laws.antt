-- The lent outputs while the first n are written: as long as they were, f at each of the first i, and untouched behind n.
use Rattle.std.proofs.Common.{◌≡◌, ℕ, suc, ◌-◌, ◌<◌, ◌≤◌, Bool, true, false, cond, ◌&&◌, eqb, List, ◌++◌, length, get_or, take, drop, set, ℤ, pos, sym, refl, ap, ◌∙◌, arith, length-set, take-append-drop, length-take-le, get_or-set_other, get_or-take, get_or-set_same, drop-set-lt, drop_at, eq-eqb, ne_eqb, eqb-true}
use lib.ListN.{replicate, get_or-append, get_or-replicate}
use borrow.Author.Tests.{eqb-false}
use Rattle.sets.specs.Loops.{table}
use Rattle.sets.proofs.Loops.{is-table, length-table, get_or-table}
use Rattle.sets.specs.Sets.{has}
use Rattle.passes.specs.Outputs.{first, drives, output_of, outputs_of, wiped, driven}

pub record Front (n : ℕ) (f : ℕ → ℤ) (i : ℕ) (l l₀ : List ℤ) : Type 0 where
  pub long : length l ≡ length l₀
  pub passed : (j : ℕ) → j < i → get_or l j (pos 0) ≡ f j
  pub behind : drop n l ≡ drop n l₀

-- f is written at i, and what was there at the others
module _ (n : ℕ) (f g : ℕ → ℤ) (i m : ℕ) (l l₀ : List ℤ) (v : ℤ) (w : Front n f m l l₀) (h : i < n) (k : n ≤ length l₀) where
  pub front-put : v ≡ g i → ((j : ℕ) → j < m → (j ≡ i → ⊥) → f j ≡ g j) → Front n g m (set l i v) l₀
  front-put e same = record {
    long = length-set l i v ∙ w.long;
    passed = λ j q. at j q (eqb j i) refl;
    behind = drop-set-lt n l i v h ∙ w.behind;
  }
    where
      at : (j : ℕ) → j < m → (t : Bool) → eqb j i ≡ t → get_or (set l i v) j (pos 0) ≡ g j
      at j q true z =
          let r = eqb-true j i z in
          let o = w.long in
          rw r (get_or-set_same l i v (pos 0) (omega arith) ∙ e)
      at j q false z = get_or-set_other l i j v (pos 0) (eqb-false j i z) ∙ w.passed j q ∙ same j q (eqb-false j i z)

pub front-end : (n : ℕ) (f : ℕ → ℤ) (i : ℕ) (l l₀ : List ℤ) → Front n f i l l₀ → n ≤ i → n ≤ length l₀ → l ≡ table f n ++ drop n l₀
front-end n f i l l₀ w h k =
    let o = w.long in
    sym (take-append-drop n l)
    ∙ ap (λ (t : List ℤ). t ++ drop n l) (is-table f n (take n l) (pos 0) (length-take-le n l (omega arith)) (λ j q. get_or-take n l j (pos 0) q ∙ w.passed j (omega arith)))
    ∙ ap (λ (t : List ℤ). table f n ++ t) w.behind

-- ---- the first active action from a on

module _ (n : ℕ) (output : List ℕ) (value : List ℤ) (activity : ℕ) where
  -- what output o has from the actions from a on
  unfoldable pub from : ℕ → ℤ → ℕ → ℤ
  from a d o = first (drives output activity o) (λ b. get_or value b (pos 0)) d (n - a) a

  pub from_end : (d : ℤ) (o : ℕ) → d ≡ from n d o
  unfolding first from
  from_end d o = let e : n - n ≡ 0 = omega arith in rw e

  pub from_all : (d : ℤ) (o : ℕ) → from 0 d o ≡ output_of n output value activity d o
  unfolding from
  from_all d o = let e : n - 0 ≡ n = omega arith in rw e

  -- action a - 1 comes before those from a on
  module _ (a : ℕ) (d : ℤ) (h : 0 < a) (k : a ≤ n) where
    from_next : (o : ℕ) → cond (has activity (a - 1) && eqb (get_or output (a - 1) 0) o) (get_or value (a - 1) (pos 0)) (from a d o) ≡ from (a - 1) d o
    unfolding first from
    from_next o =
        let e : n - (a - 1) ≡ suc (n - a) = omega arith in
        let q : suc (a - 1) ≡ a = omega arith in
        rw (e, q)

    pub from-idle : (o : ℕ) → has activity (a - 1) ≡ false → from a d o ≡ from (a - 1) d o
    from-idle o f = rw f at (from_next o)

    pub from-written : (t : ℕ) → has activity (a - 1) ≡ true → t ≡ get_or output (a - 1) 0 → get_or value (a - 1) (pos 0) ≡ from (a - 1) d t
    from-written t f e = rw (f, eq-eqb _ t (sym e)) at (from_next t)

    pub from-other : (t o : ℕ) → has activity (a - 1) ≡ true → t ≡ get_or output (a - 1) 0 → (o ≡ t → ⊥) → from a d o ≡ from (a - 1) d o
    from-other t o f e z = rw (f, ne_eqb _ o (λ q. z (sym q ∙ sym e))) at (from_next o)

pub front-as : (n : ℕ) (f g : ℕ → ℤ) (i : ℕ) (l l₀ : List ℤ) → Front n f i l l₀ → ((j : ℕ) → j < i → f j ≡ g j) → Front n g i l l₀
front-as n f g i l l₀ w same = record { long = w.long; passed = λ j q. w.passed j q ∙ same j q; behind = w.behind }

-- zeros in front of what was there
pub zeros-wiped : (out : List ℤ) → replicate 32 (pos 0) ++ drop 32 out ≡ wiped out
zeros-wiped out = ap (λ (t : List ℤ). t ++ drop 32 out) (is-table (λ o. pos 0) 32 (replicate 32 (pos 0)) (pos 0) refl (λ j q. get_or-replicate 32 j (pos 0) (pos 0) q))

pub driven-wiped : (n : ℕ) (output : List ℕ) (value : List ℤ) (activity : ℕ) (out : List ℤ)
    → driven n output value activity (wiped out) ≡ outputs_of n output value activity ++ drop 32 out
unfolding outputs_of
driven-wiped n output value activity out =
    ap (λ (t : List ℤ). t ++ drop 32 (wiped out))
    (is-table (output_of n output value activity (pos 0)) 32 (table (λ o. output_of n output value activity (get_or (wiped out) o (pos 0)) o) 32) (pos 0) (length-table _ 32)
    (λ j q. get_or-table _ 32 j (pos 0) q ∙ ap (λ (d : ℤ). output_of n output value activity d j) (blank j q)))
    ∙ ap (λ (t : List ℤ). table (output_of n output value activity (pos 0)) 32 ++ t) (drop_at (table (λ o. pos 0) 32) (drop 32 out) 32 (length-table (λ o. pos 0) 32))
  where
    blank : (j : ℕ) → j < 32 → get_or (wiped out) j (pos 0) ≡ pos 0
    blank j q =
        get_or-append (table (λ o. pos 0) 32) (drop 32 out) (pos 0) j (omega (arith, length-table (λ (o : ℕ). pos 0) 32)) ∙ get_or-table (λ o. pos 0) 32 j (pos 0) q

-- the outputs are 32
pub outputs-length : (n : ℕ) (output : List ℕ) (value : List ℤ) (activity : ℕ) → length (outputs_of n output value activity) ≡ 32
unfolding outputs_of
outputs-length n output value activity = length-table _ 32
