-- Reasons and what is taken; and "A target so tested lets a step left in this cycle be entered in it": not in the first edition. What is left was
-- active at the cycle's beginning, and there what is entered was not.
use Prim.Native.Nat.{ℕ, zero, suc, ◌+◌, ◌-◌, ◌≤◌, ◌<◌, min}
use mathlib.Core.List.{List}
use mathlib.Core.Bool.{Bool, true, false, ◌&&◌, not, cond}
use mathlib.Core.Path.{◌≡◌, refl, sym, ap, ◌∙◌}
use native.Mathlib.Omega.{arith}
use Rattle.std.proofs.Common.{◌++◌, drop, length-append, length-drop}
use Rattle.std.proofs.lemmas.List.{length-replicate, get_or_append_left, get_or-append_right, get_or-drop}
use lib.ListN.{get_or, length, length-set, set, replicate, get_or-replicate}
use lib.Seq.{get_or-set_same, get_or-set_other}
use lib.Dec.{ltb, eqb}
use borrow.Author.Tests.{ltb-true, ltb-false, lt-ltb, le-ltb, eqb-true, eqb-false}
use Rattle.sets.specs.Loops.{or_else, table, turns}
use Rattle.sets.specs.Sets.{has, Within, Apart, among}
use Rattle.sets.proofs.Loops.{bool_eq, and-true, turns-start, turns_more, length-table, get_or-table, is-table, true-all}
use Rattle.sets.proofs.Members.{has-zero}
use Rattle.sets.proofs.Visits.{turns-none-from, turns_same}
use Rattle.sets.proofs.Below.{has-union, within_has, apart-has, either, never}
use Rattle.fields.specs.Fields.{unless, second}
use Rattle.choice.specs.Choice.{ripe, reason, tested, takes, choosing_at, none_taken, chosen, chosen_from, reason_at, held, reason_under, reasons_of, held_reasons}
use Rattle.run.specs.Run.{counter}
use Rattle.run.specs.Apart.{counts_of}
use Rattle.run.specs.declared.run.StepCounter.{StepCounter}
use Rattle.choice.specs.declared.Choice.{Choice}

-- ---- a reason is 0 exactly if every test holds

none-against : (a b c d e f r : Bool)
    → eqb (or_else (unless a 1) (or_else (unless b 2) (or_else (unless (c && d) 3) (or_else (unless r 4) (or_else (unless e 5) (unless f 6)))))) 0 ≡ (a && b && c && d && e && f && r)
none-against false b c d e f r = refl
none-against true false c d e f r = refl
none-against true true false d e f r = refl
none-against true true true false e f r = refl
none-against true true true true false f true = refl
none-against true true true true false f false = refl
none-against true true true true true false true = refl
none-against true true true true true false false = refl
none-against true true true true true true true = refl
none-against true true true true true true false = refl

-- "'Taken' is given exactly where it was before": where document 01's tests hold, as the choosing made them before there were reasons
pub taken-as-before : (ch : Choice) (s t on off w : ℕ) (counts : List ℕ) (active signals : ℕ)
    → eqb (reason ch s t on off w counts active signals) 0 ≡ (Within s active && Apart s ch.left && Within on signals && Apart off signals && Apart t active && Apart t ch.claimed && ripe w s counts)
unfolding reason
taken-as-before ch s t on off w counts active signals =
    none-against (Within s active) (Apart s ch.left) (Within on signals) (Apart off signals) (Apart t active) (Apart t ch.claimed) (ripe w s counts)

-- of a taken transition: its sources were active and none of them used, its targets were not active and none of them claimed
pub record Free (s t active : ℕ) (ch : Choice) : Type 0 where
  pub sources : Within s active ≡ true
  pub unused : Apart s ch.left ≡ true
  pub targets : Apart t active ≡ true
  pub unclaimed : Apart t ch.claimed ≡ true

pub taken_free : (ch : Choice) (s t on off w : ℕ) (counts : List ℕ) (active signals : ℕ) → eqb (reason ch s t on off w counts active signals) 0 ≡ true → Free s t active ch
taken_free ch s t on off w counts active signals h =
    let a = and-true _ (ripe w s counts) (sym (taken-as-before ch s t on off w counts active signals) ∙ h) in
    let b = and-true _ (Apart t ch.claimed) a.0 in
    let c = and-true _ (Apart t active) b.0 in
    let d = and-true _ (Apart off signals) c.0 in
    let e = and-true _ (Within on signals) d.0 in
    let f = and-true (Within s active) (Apart s ch.left) e.0 in
    record { sources = f.0; unused = f.1; targets = c.1; unclaimed = b.1 }

-- ---- a reason is at most 6

one-of-six : (a b d r e f : Bool) → or_else (unless a 1) (or_else (unless b 2) (or_else (unless d 3) (or_else (unless r 4) (or_else (unless e 5) (unless f 6))))) ≤ 6
one-of-six false b d r e f = omega arith
one-of-six true false d r e f = omega arith
one-of-six true true false r e f = omega arith
one-of-six true true true false e f = omega arith
one-of-six true true true true false f = omega arith
one-of-six true true true true true false = omega arith
one-of-six true true true true true true = omega arith

pub reason-most : (ch : Choice) (s t on off w : ℕ) (counts : List ℕ) (active signals : ℕ) → reason ch s t on off w counts active signals ≤ 6
unfolding reason
reason-most ch s t on off w counts active signals =
    one-of-six (Within s active) (Apart s ch.left) (Within on signals && Apart off signals) (ripe w s counts) (Apart t active) (Apart t ch.claimed)

-- ---- the first test that fails

pub not-active : (ch : Choice) (s t on off w : ℕ) (counts : List ℕ) (active signals : ℕ) → Within s active ≡ false → 1 ≡ reason ch s t on off w counts active signals
unfolding reason
not-active ch s t on off w counts active signals a = rw a

-- ---- the reasons so far, and 0 beyond

pub ltb-same : (k m n : ℕ) → (k < m → k < n) → (k < n → k < m) → ltb k m ≡ ltb k n
ltb-same k m n f g = bool_eq (ltb k m) (ltb k n) (λ e. lt-ltb k n (f (ltb-true k m e))) (λ e. lt-ltb k m (g (ltb-true k n e)))

pub reason-under-most : (hold : ℕ) (ch : Choice) (s t on off w : ℕ) (counts : List ℕ) (active signals : ℕ) → reason_under hold (reason ch s t on off w counts active signals) ≤ 7
reason-under-most hold ch s t on off w counts active signals = go (held hold)
  where
    go : (h : Bool) → or_else (unless (not h) 7) (reason ch s t on off w counts active signals) ≤ 7
    go true = omega arith
    go false = omega (arith, reason-most ch s t on off w counts active signals)

-- what is told of the first n transitions, and 0 beyond
module _ (why : ℕ → ℕ) where
  abbrev told : ℕ → List ℕ
  told n = table (λ t. cond (ltb t n) (why t) 0) 64

  told_at : (n k : ℕ) → k < 64 → get_or (told n) k 0 ≡ cond (ltb k n) (why k) 0
  told_at n k l = get_or-table (λ t. cond (ltb t n) (why t) 0) 64 k 0 l

  told-are : (n : ℕ) (l : List ℕ) → length l ≡ 64 → ((k : ℕ) → k < 64 → get_or l k 0 ≡ cond (ltb k n) (why k) 0) → l ≡ told n
  told-are n l h f = is-table (λ t. cond (ltb t n) (why t) 0) 64 l 0 h f

  told-long : (n : ℕ) → length (told n) ≡ 64
  told-long n = length-table (λ t. cond (ltb t n) (why t) 0) 64

  none_told : replicate 64 0 ≡ told 0
  none_told = told-are 0 (replicate 64 0) refl (λ k l. get_or-replicate 64 k 0 0 l ∙ rw (le-ltb k 0 (omega arith)))

  one_told : (t v : ℕ) (l : List ℕ) → l ≡ told t → t < 64 → v ≡ why t → set l t v ≡ told (t + 1)
  one_told t v l e m h = told-are (t + 1) (set l t v) (length-set l t v ∙ long) (λ k n. go k n (eqb k t) refl)
    where
      long : length l ≡ 64
      long = ap length e ∙ told-long t

      go : (k : ℕ) → k < 64 → (b : Bool) → eqb k t ≡ b → get_or (set l t v) k 0 ≡ cond (ltb k (t + 1)) (why k) 0
      go k n true q = let same = eqb-true k t q in rw (same, lt-ltb t (t + 1) (omega arith)) (get_or-set_same l t v 0 (rw long m) ∙ h)
      go k n false q = let other = eqb-false k t q in get_or-set_other l t k v 0 other ∙ rw e (told_at t k n) ∙ ap (λ (b : Bool). cond b (why k) 0) (ltb-same k t (t + 1) (λ x. omega arith) (λ x. omega arith))

  -- there is room for 64, and so for all
  all_told : (n t : ℕ) (l : List ℕ) → l ≡ told t → t ≡ min n 64 → l ≡ told n
  all_told n t l e h =
      e ∙ told-are n (told t) (told-long t) (λ k m. told_at t k m ∙ ap (λ (b : Bool). cond b (why k) 0) (ltb-same k t n (λ x. omega arith) (λ x. omega arith)))

module _ (hold edition : ℕ) (sources targets on off wait counts : List ℕ) (active signals : ℕ) where
  abbrev reasons : ℕ → List ℕ
  reasons n = reasons_of hold edition n sources targets on off wait counts active signals

  abbrev why : ℕ → ℕ
  why t = reason_under hold (reason_at edition sources targets on off wait counts active signals t)

  pub reasons-at : (n k : ℕ) → k < 64 → get_or (reasons n) k 0 ≡ cond (ltb k n) (why k) 0
  unfolding reasons_of
  reasons-at n k l = told_at why n k l

  pub reasons-most : (n k : ℕ) → k < 64 → get_or (reasons n) k 0 ≤ 7
  reasons-most n k l = rw (reasons-at n k l) (go (ltb k n))
    where
      go : (b : Bool) → cond b (why k) 0 ≤ 7
      go true = reason-under-most hold (chosen edition k sources targets on off wait counts active signals) _ _ _ _ _ counts active signals
      go false = omega arith

  -- held or not
  pub all_held : (n : ℕ) → held hold ≡ true → held_reasons n ≡ reasons n
  unfolding reasons_of held_reasons
  all_held n h = rw h

  pub none-held : (n : ℕ) → held hold ≡ false → reasons_of 0 edition n sources targets on off wait counts active signals ≡ reasons n
  unfolding reasons_of
  none-held n h = rw h

-- of a run that is not held, transition after transition
module _ (edition : ℕ) (sources targets on off wait counts : List ℕ) (active signals : ℕ) where
  abbrev taken : ℕ → Choice
  taken n = chosen edition n sources targets on off wait counts active signals

  abbrev free : ℕ → List ℕ
  free n = reasons_of 0 edition n sources targets on off wait counts active signals

  abbrev freely : ℕ → ℕ
  freely t = reason_at edition sources targets on off wait counts active signals t

  pub none-explained : (none_taken ≡ taken 0) × (replicate 64 0 ≡ free 0)
  unfolding chosen reasons_of
  none-explained = (turns-start _ _, none_told freely)

  -- transition t, after those before it
  pub one-explained : (t v : ℕ) (ch next : Choice) (l : List ℕ) → ch ≡ taken t → l ≡ free t → t < 64
      → v ≡ reason ch (get_or sources t 0) (tested edition (get_or targets t 0)) (get_or on t 0) (get_or off t 0) (get_or wait t 0) counts active signals
      → next ≡ cond (eqb v 0) (takes ch t (get_or sources t 0) (get_or targets t 0)) ch → (next ≡ taken (t + 1)) × (set l t v ≡ free (t + 1))
  unfolding chosen reasons_of
  one-explained t v ch next l e f m h g = (
    turns_more _ _ t ch next e (g ∙ ap (λ (x : ℕ). cond (eqb x 0) (takes ch t (get_or sources t 0) (get_or targets t 0)) ch) h),
    one_told freely t v l f m (h ∙ ap (λ (x : Choice). reason x (get_or sources t 0) (tested edition (get_or targets t 0)) (get_or on t 0) (get_or off t 0) (get_or wait t 0) counts active signals) e),
  )

  pub all-explained : (n t : ℕ) (l : List ℕ) → l ≡ free t → t ≡ min n 64 → l ≡ free n
  unfolding reasons_of
  all-explained n t l e h = all_told freely n t l e h

-- of a run that is held: as many sevens as there are transitions, with room for 64
pub all-held : (n m : ℕ) → m ≡ min n 64 → replicate {A = ℕ} m 7 ++ drop m (replicate 64 0) ≡ held_reasons n
unfolding held_reasons
all-held n m h = told-are (λ t. 7) n (replicate m 7 ++ drop m (replicate 64 0)) (simp (length-append, length-replicate, length-drop) (omega arith)) (λ k l. at k l)
  where
    at : (k : ℕ) → k < 64 → get_or {A = ℕ} (replicate m 7 ++ drop m (replicate 64 0)) k 0 ≡ cond (ltb k n) 7 0
    at k l = go (ltb k m) refl
      where
        go : (b : Bool) → ltb k m ≡ b → get_or {A = ℕ} (replicate m 7 ++ drop m (replicate 64 0)) k 0 ≡ cond (ltb k n) 7 0
        go true e =
            let q = ltb-true k m e in
            get_or_append_left (replicate m 7) (drop m (replicate 64 0)) 0 k (omega (arith, length-replicate {A = ℕ} m 7)) ∙ get_or-replicate m k 7 0 q ∙ rw (lt-ltb k n (omega arith))
        go false e =
            let q = ltb-false k m e in
            get_or-append_right _ _ m k 0 (length-replicate {A = ℕ} m 7) q ∙ get_or-drop m _ (k - m) 0 ∙ get_or-replicate 64 (m + (k - m)) 0 0 (omega arith) ∙ rw (le-ltb k n (omega arith))

-- ---- the two editions

-- in the first, all targets are tested
pub first-tests : (edition targets : ℕ) → second edition ≡ false → tested edition targets ≡ targets
first-tests edition targets e = rw e

-- in the second none is, so that "a target occupied" and "a target claimed by an earlier one" are no reasons: the last is the wait's
pub second-reason : (edition : ℕ) (ch : Choice) (s t on off w : ℕ) (counts : List ℕ) (active signals : ℕ) → second edition ≡ true
    → reason ch s (tested edition t) on off w counts active signals ≤ 4
unfolding reason
second-reason edition ch s t on off w counts active signals e =
    rw (e, nothing-apart active, nothing-apart ch.claimed) (first-four (Within s active) (Apart s ch.left) (Within on signals && Apart off signals) (ripe w s counts))
  where
    nothing-apart : (a : ℕ) → Apart 0 a ≡ true
    nothing-apart a = true-all (λ k. not (has 0 k && has a k)) 64 (λ k l. rw (has-zero k))

    first-four : (a b d r : Bool) → or_else (unless a 1) (or_else (unless b 2) (or_else (unless d 3) (or_else (unless r 4) 0))) ≤ 4
    first-four false b d r = omega arith
    first-four true false d r = omega arith
    first-four true true false r = omega arith
    first-four true true true false = omega arith
    first-four true true true true = omega arith

-- ---- left and entered

-- what is left was active at the cycle's beginning; in the first edition, what is a target was not
record Fair (edition active k : ℕ) (ch : Choice) : Type 0 where
  left : has ch.left k ≡ true → has active k ≡ true
  claimed : second edition ≡ false → has ch.claimed k ≡ true → has active k ≡ false

module _ (edition : ℕ) (sources targets on off wait counts : List ℕ) (active signals k : ℕ) (l : k < 64) where
  abbrev so_far : ℕ → Choice
  so_far n = chosen edition n sources targets on off wait counts active signals

  fair-turn : (t : ℕ) (ch : Choice) → Fair edition active k ch → Fair edition active k (choosing_at edition sources targets on off wait counts active signals t ch)
  fair-turn t ch o = go (eqb (reason ch f (tested edition g) (get_or on t 0) (get_or off t 0) (get_or wait t 0) counts active signals) 0) refl
    where
      f : ℕ
      f = get_or sources t 0

      g : ℕ
      g = get_or targets t 0

      go : (b : Bool) → eqb (reason ch f (tested edition g) (get_or on t 0) (get_or off t 0) (get_or wait t 0) counts active signals) 0 ≡ b → Fair edition active k (cond b (takes ch t f g) ch)
      go true e =
          let r = taken_free ch f (tested edition g) (get_or on t 0) (get_or off t 0) (get_or wait t 0) counts active signals e in
          record {
            left = λ h. either (has ch.left k) (has f k) (sym (has-union ch.left f k l) ∙ h) o.left (within_has f active r.sources k l);
            claimed = λ d h. either (has ch.claimed k) (has g k) (sym (has-union ch.claimed g k l) ∙ h) (o.claimed d) (apart-has g active (rw d at r.targets) k l);
          }
      go false e = o

  fair : (n : ℕ) → Fair edition active k (so_far n)
  unfolding chosen turns
  fair zero = record { left = λ h. never (sym (has-zero k) ∙ h); claimed = λ d h. never (sym (has-zero k) ∙ h) }
  fair (suc n) = fair-turn n (so_far n) (fair n)

  pub left-not-entered : (n : ℕ) → second edition ≡ false → has (so_far n).left k ≡ true → has (so_far n).claimed k ≡ false
  left-not-entered n d h = go (has (so_far n).claimed k) refl
    where
      go : (b : Bool) → has (so_far n).claimed k ≡ b → b ≡ false
      go true e = never (sym ((fair n).claimed d e) ∙ (fair n).left h)
      go false e = refl

-- ---- the transitions that are consulted (document 02, request ix)

module _ (edition : ℕ) (sources targets on off wait counts : List ℕ) (active signals : ℕ) where
  abbrev one : ℕ → Choice → Choice
  one = choosing_at edition sources targets on off wait counts active signals

  -- a transition with a source that is not active is not taken: its reason is 1
  not_taken : (t : ℕ) (ch : Choice) → Within (get_or sources t 0) active ≡ false → one t ch ≡ ch
  not_taken t ch e = rw (← not-active ch (get_or sources t 0) (tested edition (get_or targets t 0)) (get_or on t 0) (get_or off t 0) (get_or wait t 0) counts active signals e)

  -- "A cycle that consults only transitions leaving some active step takes the same ones": whoever consults, of n transitions, each whose sources
  -- are all active
  pub consulted-enough : (n consulted : ℕ) → n ≤ 64 → ((t : ℕ) → t < 64 → has consulted t ≡ true → t < n)
      → ((t : ℕ) → t < n → has consulted t ≡ false → Within (get_or sources t 0) active ≡ false)
      → chosen_from edition consulted sources targets on off wait counts active signals ≡ chosen edition n sources targets on off wait counts active signals
  unfolding chosen_from chosen
  consulted-enough n consulted l only enough = turns-none-from (among consulted one) none_taken n 64 l beyond ∙ turns_same (among consulted one) one none_taken n each
    where
      each : (t : ℕ) → t < n → (ch : Choice) → among consulted one t ch ≡ one t ch
      each t m ch = go (has consulted t) refl
        where
          go : (b : Bool) → has consulted t ≡ b → cond b (one t ch) ch ≡ one t ch
          go true e = refl
          go false e = sym (not_taken t ch (enough t m e))

      beyond : (t : ℕ) → n ≤ t → t < 64 → (ch : Choice) → among consulted one t ch ≡ ch
      beyond t m k ch = go (has consulted t) refl
        where
          go : (b : Bool) → has consulted t ≡ b → cond b (one t ch) ch ≡ ch
          go true e = absurd (omega (arith, only t k e))
          go false e = refl

-- ---- a step's counter as a number

pub count-at : (counters : List StepCounter) (k : ℕ) → k < 64 → get_or (counts_of counters) k 0 ≡ (get_or counters k (counter 0)).0
count-at counters k l = get_or-table (λ j. (get_or counters j (counter 0)).0) 64 k 0 l
