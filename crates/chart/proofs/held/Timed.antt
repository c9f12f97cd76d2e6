-- The timed blocks, and the actions that had one so far.
use Prim.Native.Nat.{ℕ, zero, suc, ◌+◌, ◌-◌, ◌*◌, ◌%◌, ◌^◌, ◌≤◌, ◌<◌, min}
use mathlib.Core.List.{List}
use mathlib.Core.Bool.{Bool, true, false, ◌&&◌, ◌||◌, cond}
use mathlib.Core.Path.{◌≡◌, refl, sym, ap, ap₂, ◌∙◌}
use native.Mathlib.Nat.{add-zero, zero-mul, mod-lt, lt_of_lt_of_le, lt_trans}
use native.Mathlib.Omega.{arith}
use lib.ListN.{get_or, set, replicate, length-set, length-replicate, get_or-replicate}
use lib.Seq.{get_or-set_same, get_or-set_other}
use lib.Dec.{ltb, eqb}
use lib.Bits.{bit_or, or_zero_r}
use lib.Pow.{pow_mono, pow_pos, shl_exact, pow-add}
use mir.Val.{bool_byte}
use borrow.Author.Tests.{eqb-true, eqb-false, lt-ltb, ltb-true, ltb-false}
use Rattle.sets.specs.Loops.{some}
use Rattle.sets.proofs.Loops.{some-start, some_turn, some-none, or-false, or-true, and-true}
use Rattle.sets.specs.Sets.{has, collect, insert, first, remove}
use Rattle.sets.proofs.Members.{has-zero, has-collect, has-mod, collect-lt, collect-turn, same-members, or-shl-insert}
use Rattle.sets.proofs.Visits.{Visited, visited-start, visited-turn, visit-lt, visit-rest, visit-least, visit-has, visit-less, visit-other}
use Rattle.sets.proofs.Below.{never}
use Rattle.fields.specs.Fields.{timed}
use Rattle.chart.specs.Held.{timed_for, timed_from, timed_among, Seen}

-- ---- the actions that had a timed block so far

pub none_seen : (acts quals : List ℕ) → Seen acts quals (replicate 256 false) false 0
unfolding timed_for
none_seen acts quals = record {
  long = length-replicate 256 false;
  marks = λ a h. get_or-replicate 256 a false false h ∙ some-start _;
  again = some-start _;
}

module _ (acts quals : List ℕ) (seen : List Bool) (twice : Bool) (i : ℕ) (o : Seen acts quals seen twice i) where
  mark : (a b : ℕ) (e : Bool) → a < 256 → b < 256 → eqb a b ≡ e → get_or (set seen a true) b false ≡ get_or seen b false || e
  mark a b true ha hb e =
      let l = o.long in
      let q = eqb-true a b e in
      rw (q) (get_or-set_same seen b true false (omega arith) ∙ sym (or-true (get_or seen b false)))
  mark a b false ha hb e = get_or-set_other seen a b true false (λ q. eqb-false a b e (sym q)) ∙ sym (or-false (get_or seen b false))

  one_seen : (a : ℕ) → true ≡ timed (get_or quals i 0) → a ≡ get_or acts i 0 → a < 256 → Seen acts quals (set seen a true) (twice || get_or seen a false) (i + 1)
  unfolding timed_for
  one_seen a e q h = record {
    long = length-set seen a true ∙ o.long;
    marks = λ b hb. mark a b _ h hb refl ∙ some_turn _ i (o.marks b hb) (ap₂ (λ (x : Bool) (y : ℕ). x && eqb y b) e q);
    again = some_turn _ i o.again (ap₂ ◌&&◌ e (o.marks a h ∙ ap (λ (x : ℕ). timed_for acts quals x i) q));
  }

  -- a block that is not timed changes nothing
  not_seen : false ≡ timed (get_or quals i 0) → Seen acts quals seen twice (i + 1)
  unfolding timed_for
  not_seen e = record {
    long = o.long;
    marks = λ b hb. sym (or-false (get_or seen b false)) ∙ some_turn _ i (o.marks b hb) (ap (λ (x : Bool). x && eqb (get_or acts i 0) b) e);
    again = sym (or-false twice) ∙ some_turn _ i o.again (ap (λ (x : Bool). x && timed_for acts quals (get_or acts i 0) i) e);
  }

-- blocks of which none is timed
pass-over : {acts quals : List ℕ} {seen : List Bool} {twice : Bool} {i : ℕ} → Seen acts quals seen twice i
    → (k : ℕ) → ((j : ℕ) → i ≤ j → j < i + k → timed (get_or quals j 0) ≡ false) → Seen acts quals seen twice (i + k)
pass-over {acts} {quals} {seen} {twice} {i} o zero h = rw (add-zero i) o
pass-over {acts} {quals} {seen} {twice} {i} o (suc k) h =
    let r = not_seen acts quals seen twice (i + k) (pass-over o k (λ j a b. h j a (omega arith))) (sym (h (i + k) (omega arith) (omega arith))) in
    let e : i + k + 1 ≡ i + suc k = omega arith in
    rw e at r

-- sixteen blocks from a place on of which none is timed, as far as there are so many
pub pass-sixteen : {acts quals : List ℕ} {seen : List Bool} {twice : Bool} (at n : ℕ) → Seen acts quals seen twice (min at n)
    → {any : Bool} → any ≡ some (λ k. timed (get_or quals (at + k) 0)) 16 → any ≡ false → Seen acts quals seen twice (min (at + 16) n)
pass-sixteen {acts} {quals} {seen} {twice} at n o e f =
    let all : min at n + (min (at + 16) n - min at n) ≡ min (at + 16) n = omega arith in
    rw all at (pass-over o (min (at + 16) n - min at n) none)
  where
    none : (j : ℕ) → min at n ≤ j → j < min at n + (min (at + 16) n - min at n) → timed (get_or quals j 0) ≡ false
    none j a b =
        let h : at + (j - at) ≡ j = omega arith in
        rw h at (some-none (λ k. timed (get_or quals (at + k) 0)) 16 (sym e ∙ f) (j - at) (omega arith))

-- ---- the timed ones among the blocks from a place on, as a set of half a word

pub among-start : (at : ℕ) (quals : List ℕ) → 0 ≡ collect (timed_from at quals) 1
unfolding collect
among-start at quals = refl

pub among-turn : (at : ℕ) (quals : List ℕ) (k : ℕ) {s : ℕ} {b : Bool} → k < 16 → s ≡ collect (timed_from at quals) (k + 1) → b ≡ timed (get_or quals (at + k) 0)
    → bit_or s (bool_byte b * 2 ^ (k + 1) % 2 ^ 32) ≡ collect (timed_from at quals) (k + 1 + 1)
among-turn at quals k {s} {b} l e t =
    collect-turn (timed_from at quals) (k + 1) s _ b (omega arith) e here (put b)
  where
    here : b ≡ timed_from at quals (k + 1)
    here = let i : at + (k + 1) - 1 ≡ at + k = omega arith in rw (lt-ltb 0 (k + 1) (omega arith), i) t

    put : (b : Bool) → bit_or s (bool_byte b * 2 ^ (k + 1) % 2 ^ 32) ≡ cond b (insert s (k + 1)) s
    put true = ap (bit_or s) (shl_exact 1 (k + 1) 32 (omega arith) (omega arith) ∙ sym (shl_exact 1 (k + 1) 64 (omega arith) (omega arith))) ∙ or-shl-insert s (k + 1) (rw e (lt_of_lt_of_le (collect-lt _ (k + 1)) (pow_mono {j = 64} (omega arith)))) (omega arith)
    put false = ap (bit_or s) (ap (λ (x : ℕ). x % 2 ^ 32) (zero-mul (2 ^ (k + 1)))) ∙ or_zero_r s

pub among-limit : (left : ℕ) → left ≤ 16 → 2 * 2 ^ left % 2 ^ 32 ≡ 2 ^ (left + 1)
among-limit left l = shl_exact 2 left 32 (omega arith) (omega arith) ∙ sym (pow-add 2 1 left) ∙ ap (λ (n : ℕ). 2 ^ n) (omega arith)

pub among-end : (at left : ℕ) (quals : List ℕ) {s : ℕ} → left ≤ 16 → s ≡ collect (timed_from at quals) 17 → s % (2 * 2 ^ left % 2 ^ 32) ≡ timed_among at left quals
unfolding timed_among
among-end at left quals {s} l e = rw (among-limit left l, e) (same-members (left + 1) _ _ (mod-lt _ (pow_pos (left + 1))) (collect-lt _ (left + 1)) members)
  where
    members : (k : ℕ) → k < left + 1 → has (collect (timed_from at quals) 17 % 2 ^ (left + 1)) k ≡ has (collect (timed_from at quals) (left + 1)) k
    members k h = has-mod (left + 1) _ k h ∙ has-collect _ 17 k (omega arith) ∙ sym (has-collect _ (left + 1) k h)

from_place : (at : ℕ) (quals : List ℕ) (i : ℕ) → at ≤ i → timed_from at quals (i + 1 - at) ≡ timed (get_or quals i 0)
from_place at quals i l =
    let e : at + (i + 1 - at) - 1 ≡ i = omega arith in
    rw (lt-ltb 0 (i + 1 - at) (omega arith), e)

-- ---- the members of that set visited, least first: the blocks before `to` are passed, and none from there on is timed but those still to be visited

pub record Visiting (acts quals : List ℕ) (seen : List Bool) (twice : Bool) (at left rest : ℕ) : Type 0 where
  pub to : ℕ
  pub from : at ≤ to
  pub within : to ≤ at + left
  pub half : rest < 2 ^ 17
  pub known : Seen acts quals seen twice to
  pub ahead : (k : ℕ) → k < left + 1 → has rest k ≡ true → to < at + k
  pub visited : Visited (λ k. to < at + k → timed_from at quals k ≡ false) (left + 1) (timed_among at left quals) rest

pub visiting-start : {acts quals : List ℕ} {seen : List Bool} {twice : Bool} {at : ℕ} → Seen acts quals seen twice at
    → (left : ℕ) {rest : ℕ} → left ≤ 16 → rest ≡ timed_among at left quals → Visiting acts quals seen twice at left rest
unfolding timed_among
visiting-start {acts} {quals} {seen} {twice} {at} o left {rest} l e = rw e record {
  to = at;
  from = omega arith;
  within = omega arith;
  half = lt_of_lt_of_le (collect-lt _ (left + 1)) (pow_mono {j = 17} (omega arith));
  known = o;
  ahead = λ k b h. let n = ltb-true 0 k (and-true (ltb 0 k) _ (sym (has-collect _ (left + 1) k b) ∙ h)).0 in omega arith;
  visited = visited-start (omega arith) (collect-lt _ (left + 1)) (λ k b h m. sym (has-collect _ (left + 1) k b) ∙ h);
}

module _ {acts quals : List ℕ} {seen : List Bool} {twice : Bool} {at left rest : ℕ} (v : Visiting acts quals seen twice at left rest) where
  -- the blocks up to one before which none is left to be visited
  reached : (i : ℕ) → v.to ≤ i → i ≤ at + left → ((k : ℕ) → k < i + 1 - at → has rest k ≡ false) → Seen acts quals seen twice i
  reached i a b none =
      let all : v.to + (i - v.to) ≡ i = omega arith in
      let f = v.from in
      rw all at (pass-over v.known (i - v.to) (λ j c d. sym (from_place at quals j (omega arith)) ∙ v.visited.passed (j + 1 - at) (omega arith) (none (j + 1 - at) (omega arith)) (omega arith)))

  pub visiting-end : rest ≡ 0 → Seen acts quals seen twice (at + left)
  visiting-end z = reached (at + left) v.within (omega arith) (λ k l. ap (λ (x : ℕ). has x k) z ∙ has-zero k)

  module _ (z : rest ≡ 0 → ⊥) {k : ℕ} (e : k ≡ first rest) where
    pub visiting-at : (v.to < at + k) × (k ≤ left)
    visiting-at = let l = visit-lt v.visited z e in (v.ahead k l (visit-rest v.visited z e), omega arith)

    pub visiting-turn : (i : ℕ) {next a : ℕ} → i + 1 ≡ at + k → next ≡ remove rest (first rest) → a ≡ get_or acts i 0 → a < 256
        → Visiting acts quals (set seen a true) (twice || get_or seen a false) at left next
    unfolding timed_among
    visiting-turn i {next} {a} here f q h = record {
      to = at + k;
      from = omega arith;
      within = let p = visiting-at in omega arith;
      half = lt_trans (visit-less v.visited z e f) v.half;
      known = rw here at (one_seen acts quals seen twice i there a timed-here q h);
      ahead = λ m l t. let o = visit-other v.visited z e f m l t in go m o.0 o.1 (ltb m k) refl;
      visited = visited-turn v.visited z e f (λ m n p l. p (let x = visiting-at in omega arith)) (λ l. absurd (omega arith));
    }
      where
        there : Seen acts quals seen twice i
        there = let p = visiting-at in reached i (omega arith) (omega arith) (λ m l. visit-least v.visited z e m (let f = v.from in omega arith))

        timed-here : true ≡ timed (get_or quals i 0)
        timed-here =
            let p = visiting-at in
            let f = v.from in
            let m : i + 1 - at ≡ k = omega arith in
            sym (visit-has v.visited z e) ∙ has-collect _ (left + 1) k (omega arith) ∙ ap (timed_from at quals) (sym m) ∙ from_place at quals i (omega arith)

        go : (m : ℕ) → (m ≡ k → ⊥) → has rest m ≡ true → (b : Bool) → ltb m k ≡ b → at + k < at + m
        go m n t true b = never (sym (visit-least v.visited z e m (ltb-true m k b)) ∙ t)
        go m n t false b = let x = ltb-false m k b in omega arith
