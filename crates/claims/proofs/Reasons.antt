-- What is proved of specs/Reasons.antt.
use Rattle.std.specs.Prelude.{ℕ, zero, suc, ◌≤◌, ◌<◌, Bool, cond, ◌&&◌, ◌||◌, not, List, ◌⊎◌, ◌≡◌, get_or, eqb, leb, ltb}
use Rattle.std.proofs.Math.Bool.{true, false}
use Rattle.std.proofs.Math.Logic.{inl, inr}
use Rattle.std.proofs.Math.Path.{refl, subst}
use Rattle.std.proofs.Common.{sym, ◌∙◌, lt_of_lt_of_le, arith, leb-true, leb-false, lt-ltb, le-ltb, eq-eqb, eqb-true}
use Rattle.std.proofs.lemmas.List.{get_or-replicate}
use Rattle.std.proofs.lemmas.Bool.{eqb-false}
use Rattle.sets.specs.Loops.{all, or_else, turns}
use Rattle.sets.specs.Sets.{has, Within, Apart}
use Rattle.sets.proofs.Loops.{all_true, and_yes, or-true, or-false}
use Rattle.sets.proofs.Members.{has-zero}
use Rattle.sets.proofs.Below.{within_has, apart-has, never}
use Rattle.fields.specs.Fields.{unless}
use Rattle.chart.specs.declared.chart.Chart.{Chart}
use Rattle.chart.proofs.held.Sound.{sound}
use Rattle.choice.specs.Choice.{ripe, reason, tested, takes, choosing_at, none_taken, chosen, reason_at, held, chosen_under, reason_under}
use Rattle.choice.specs.declared.Choice.{Choice}
use Rattle.choice.proofs.Laws.{taken-as-before, reason-under-most, reasons-at, second-reason}
use Rattle.run.specs.declared.run.Run.{Run}
use Rattle.passes.specs.Moving.{signals_of}
use Rattle.cycle.specs.Cycling.{refused, counts_at, cycled}
use Rattle.cycle.proofs.cycling.Laws.{cycle-passed}
use Rattle.claims.specs.Runs.{Cycle, cycle, answer}
use Rattle.claims.proofs.Runs.{each-cycle}
use Rattle.claims.proofs.Moves.{has-insert, chosen_is}
use Rattle.claims.specs.Reasons.{Every, Some, Looked, Held, Unheld, Active, Unused, Signalled, Waited, Vacant, Unclaimed, Meaning, looked_at, Explained}

-- ---- a test that fails, fails at a number

record Fails (p : ℕ → Bool) (n : ℕ) : Type 0 where
  at : ℕ
  below : at < n
  fails : p at ≡ false

fails-at : (p : ℕ → Bool) (n : ℕ) → all p n ≡ false → Fails p n
unfolding all
fails-at p zero e = never (sym e)
fails-at p (suc n) e = go (p n) refl (fails-at p n)
  where
    go : (b : Bool) → p n ≡ b → (all p n ≡ false → Fails p n) → Fails p (suc n)
    go true q before = let f = before (and_yes (all p n) ∙ rw q at e) in record { at = f.at; below = let l = f.below in omega arith; fails = f.fails }
    go false q before = record { at = n; below = omega arith; fails = q }

-- of a number that fails it: it is a member, and the other test fails
neither : (x y : Bool) → not x || y ≡ false → (x ≡ true) × (y ≡ false)
neither true y e = (refl, e)
neither false y e = never (sym e)

both : (x y : Bool) → not (x && y) ≡ false → (x ≡ true) × (y ≡ true)
both true true e = (refl, refl)
both true false e = never (sym e)
both false y e = never (sym e)

outside : (s b : ℕ) → Within s b ≡ false → Some s (λ k. has b k ≡ false)
outside s b e =
    let f = fails-at (λ k. not (has s k) || has b k) 64 e in
    let m = neither (has s f.at) (has b f.at) f.fails in
    record { member = f.at; few = f.below; within = m.0; holds = m.1 }

shared : (s b : ℕ) → Apart s b ≡ false → Some s (λ k. has b k ≡ true)
shared s b e =
    let f = fails-at (λ k. not (has s k && has b k)) 64 e in
    let m = both (has s f.at) (has b f.at) f.fails in
    record { member = f.at; few = f.below; within = m.0; holds = m.1 }

early : (w s : ℕ) (counts : List ℕ) → ripe w s counts ≡ false → Some s (λ k. get_or counts k 0 < w)
early w s counts e =
    let f = fails-at (λ k. not (has s k) || leb w (get_or counts k 0)) 64 e in
    let m = neither (has s f.at) (leb w (get_or counts f.at 0)) f.fails in
    record { member = f.at; few = f.below; within = m.0; holds = leb-false w (get_or counts f.at 0) m.1 }

waited : (w s : ℕ) (counts : List ℕ) → ripe w s counts ≡ true → Every s (λ k. w ≤ get_or counts k 0)
waited w s counts e k l h = leb-true w (get_or counts k 0) (rw h at (all_true (λ k. not (has s k) || leb w (get_or counts k 0)) 64 e k l))

module _ (hold : ℕ) (ch : Choice) (s t on off w : ℕ) (counts : List ℕ) (active signals : ℕ) where
  abbrev look : Looked
  look = looked_at hold ch s t on off w counts active signals

  -- what a reason by its number means
  Means : ℕ → Type 0
  Means zero = Unheld look × Active look × Unused look × Signalled look × Waited look × Vacant look × Unclaimed look
  Means (suc zero) = Unheld look × Some s (λ k. has active k ≡ false)
  Means (suc (suc zero)) = Unheld look × Active look × Some s (λ k. has ch.left k ≡ true)
  Means (suc (suc (suc zero))) = Unheld look × Active look × Unused look × (Some on (λ k. has signals k ≡ false) ⊎ Some off (λ k. has signals k ≡ true))
  Means (suc (suc (suc (suc zero)))) = Unheld look × Active look × Unused look × Signalled look × Some s (λ k. get_or counts k 0 < w)
  Means (suc (suc (suc (suc (suc zero))))) = Unheld look × Active look × Unused look × Signalled look × Waited look × Some t (λ k. has active k ≡ true)
  Means (suc (suc (suc (suc (suc (suc zero)))))) = Unheld look × Active look × Unused look × Signalled look × Waited look × Vacant look × Some t (λ k. has ch.claimed k ≡ true)
  Means (suc (suc (suc (suc (suc (suc (suc zero))))))) = Held look
  Means (suc (suc (suc (suc (suc (suc (suc (suc n)))))))) = ⊥

  means : Means (reason_under hold (reason ch s t on off w counts active signals))
  unfolding reason Means
  means = go (held hold) refl (Within s active) refl (Apart s ch.left) refl (Within on signals) refl (Apart off signals) refl (ripe w s counts) refl (Apart t active) refl (Apart t ch.claimed) refl
    where
      go : (h : Bool) → held hold ≡ h → (a : Bool) → Within s active ≡ a → (b : Bool) → Apart s ch.left ≡ b → (c : Bool) → Within on signals ≡ c → (d : Bool) → Apart off signals ≡ d
          → (r : Bool) → ripe w s counts ≡ r → (e : Bool) → Apart t active ≡ e → (f : Bool) → Apart t ch.claimed ≡ f
          → Means (or_else (unless (not h) 7) (or_else (unless a 1) (or_else (unless b 2) (or_else (unless (c && d) 3) (or_else (unless r 4) (or_else (unless e 5) (unless f 6)))))))
      go true h a _ b _ c _ d _ r _ e _ f _ = h
      go false h false a b _ c _ d _ r _ e _ f _ = (h, outside s active a)
      go false h true a false b c _ d _ r _ e _ f _ = (h, within_has s active a, shared s ch.left b)
      go false h true a true b false c d _ r _ e _ f _ = (h, within_has s active a, apart-has s ch.left b, inl (outside on signals c))
      go false h true a true b true c false d r _ e _ f _ = (h, within_has s active a, apart-has s ch.left b, inr (shared off signals d))
      go false h true a true b true c true d false r e _ f _ =
          (h, within_has s active a, apart-has s ch.left b, (within_has on signals c, apart-has off signals d), early w s counts r)
      go false h true a true b true c true d true r false e f _ =
          (h, within_has s active a, apart-has s ch.left b, (within_has on signals c, apart-has off signals d), waited w s counts r, shared t active e)
      go false h true a true b true c true d true r true e false f =
          (h, within_has s active a, apart-has s ch.left b, (within_has on signals c, apart-has off signals d), waited w s counts r, apart-has t active e, shared t ch.claimed f)
      go false h true a true b true c true d true r true e true f =
          (h, within_has s active a, apart-has s ch.left b, (within_has on signals c, apart-has off signals d), waited w s counts r, apart-has t active e, apart-has t ch.claimed f)

  pub meaning : Meaning look (reason_under hold (reason ch s t on off w counts active signals))
  unfolding Means
  meaning = record {
    most = reason-under-most hold ch s t on off w counts active signals;
    taken = λ z. subst Means z means;
    not-active = λ z. subst Means z means;
    used = λ z. subst Means z means;
    signal = λ z. subst Means z means;
    wait = λ z. subst Means z means;
    occupied = λ z. subst Means z means;
    claimed = λ z. subst Means z means;
    hold = λ z. subst Means z means;
  }

-- "'Taken' is given exactly where it was before": where the tests of document 01 hold that the choosing made before there were reasons
pub as_before : (ch : Choice) (s t on off w : ℕ) (counts : List ℕ) (active signals : ℕ) → eqb (reason ch s t on off w counts active signals) 0
    ≡ (Within s active && Apart s ch.left && Within on signals && Apart off signals && Apart t active && Apart t ch.claimed && ripe w s counts)
as_before ch s t on off w counts active signals = taken-as-before ch s t on off w counts active signals

-- ---- the transitions of a cycle

-- of n transitions, at most 64, those are taken whose reason is 0
module _ (edition : ℕ) (sources targets on off wait counts : List ℕ) (active signals : ℕ) where
  abbrev taken : ℕ → ℕ
  taken n = (chosen edition n sources targets on off wait counts active signals).taken

  abbrev why : ℕ → ℕ
  why t = reason_at edition sources targets on off wait counts active signals t

  one_more : (n t : ℕ) → n < 64 → t < suc n → (t < n → has (taken n) t ≡ eqb (why t) 0) → has (taken (suc n)) t ≡ eqb (why t) 0
  unfolding chosen turns
  one_more n t l m before = go (eqb (why n) 0) refl (eqb t n) refl
    where
      ch : Choice
      ch = turns (choosing_at edition sources targets on off wait counts active signals) none_taken n

      go : (b : Bool) → eqb (why n) 0 ≡ b → (d : Bool) → eqb t n ≡ d → has (cond b (takes ch n (get_or sources n 0) (get_or targets n 0)) ch).taken t ≡ eqb (why t) 0
      go true e true q = let same = eqb-true t n q in has-insert ch.taken n t (omega arith) ∙ rw (q, same, e) (or-true (has ch.taken n))
      go true e false q = let other = eqb-false t n q in has-insert ch.taken n t (omega arith) ∙ rw q (or-false (has ch.taken t) ∙ before (omega arith))
      go false e true q = let same = eqb-true t n q in rw (same, e) ((chosen_is edition n sources targets on off wait counts active signals (omega arith)).new n (omega arith))
      go false e false q = let other = eqb-false t n q in before (omega arith)

  taken-zero : (n t : ℕ) → n ≤ 64 → t < n → has (taken n) t ≡ eqb (why t) 0
  taken-zero zero t h l = absurd (omega arith)
  taken-zero (suc n) t h l = one_more n t (omega arith) l (λ m. taken-zero n t (omega arith) m)

-- under hold none is, and no reason is 0
taken-under : (hold edition : ℕ) (sources targets on off wait counts : List ℕ) (active signals n t : ℕ) → n ≤ 64 → t < n
    → has (chosen_under hold edition n sources targets on off wait counts active signals).taken t ≡ eqb (reason_under hold (reason_at edition sources targets on off wait counts active signals t)) 0
taken-under hold edition sources targets on off wait counts active signals n t few l = go (held hold)
  where
    go : (b : Bool) → has (cond b none_taken (chosen edition n sources targets on off wait counts active signals)).taken t ≡ eqb (or_else (unless (not b) 7) (reason_at edition sources targets on off wait counts active signals t)) 0
    go true = has-zero t
    go false = taken-zero edition sources targets on off wait counts active signals n t few l

-- a number that is at most 4, or 7, is neither 5 nor 6
neither-of : {n : ℕ} (m : ℕ) → n ≡ m → (m ≤ 4) ⊎ (m ≡ 7) → (n ≡ 5 → ⊥) × (n ≡ 6 → ⊥)
neither-of m e (inl l) = ((λ z. omega arith), (λ z. omega arith))
neither-of m e (inr l) = ((λ z. omega arith), (λ z. omega arith))

-- the reasons of the second edition are so, and 0 beyond
second-under : (hold edition : ℕ) (ch : Choice) (s t on off w : ℕ) (counts : List ℕ) (active signals : ℕ) (b : Bool) → edition ≡ 2
    → (cond b (reason_under hold (reason ch s (tested edition t) on off w counts active signals)) 0 ≤ 4) ⊎ (cond b (reason_under hold (reason ch s (tested edition t) on off w counts active signals)) 0 ≡ 7)
second-under hold edition ch s t on off w counts active signals false q = inl (omega arith)
second-under hold edition ch s t on off w counts active signals true q = go (held hold)
  where
    go : (h : Bool) → (or_else (unless (not h) 7) (reason ch s (tested edition t) on off w counts active signals) ≤ 4) ⊎ (or_else (unless (not h) 7) (reason ch s (tested edition t) on off w counts active signals) ≡ 7)
    go true = inr refl
    go false = inl (second-reason edition ch s t on off w counts active signals (eq-eqb edition 2 q))

refused-explained : (c : Chart) (r : Run) (x : Cycle) (code : ℕ) → (code ≡ 0 → ⊥) → Explained c r x (refused code r)
refused-explained c r x code z = record {
  meaning = λ e. absurd (z e);
  taken = λ e. absurd (z e);
  beyond = λ t h l. get_or-replicate 64 t 0 0 l;
  refused = λ e. refl;
  second = λ q t l. neither-of 0 (get_or-replicate 64 t 0 0 l) (inl (omega arith));
}

cycled-explained : (c : Chart) (r : Run) (x : Cycle) → c.transitions ≤ 64 → Explained c r x (cycled c r x.clock x.inputs)
cycled-explained c r x few =
    let counts = counts_at r x.clock in
    let signals = signals_of x.inputs r.activity in
    let at = reasons-at r.hold c.edition c.sources c.targets c.on c.off c.wait counts r.active signals c.transitions in
    record {
      meaning = λ e t l. rw (at t (lt_of_lt_of_le l few), lt-ltb t c.transitions l) (meaning r.hold (chosen c.edition t c.sources c.targets c.on c.off c.wait counts r.active signals) (get_or c.sources t 0) (tested c.edition (get_or c.targets t 0)) (get_or c.on t 0) (get_or c.off t 0) (get_or c.wait t 0) counts r.active signals);
      taken = λ e t l. rw (at t (lt_of_lt_of_le l few), lt-ltb t c.transitions l) (taken-under r.hold c.edition c.sources c.targets c.on c.off c.wait counts r.active signals c.transitions t few l);
      beyond = λ t h l. at t l ∙ rw (le-ltb t c.transitions h);
      refused = λ z. absurd (z refl);
      second = λ q t l. neither-of _ (at t l) (second-under r.hold c.edition _ _ _ _ _ _ counts r.active signals (ltb t c.transitions) q);
    }

-- every answer of the cycle is so, whatever the chart, the run and the call
pub explained : (c : Chart) (r : Run) (x : Cycle) → Explained c r x (answer c r (cycle x))
explained c r x =
    each-cycle (Explained c r x) c r x
    (λ e. cycled-explained c r x (sound c (cycle-passed c r x.clock x.lent e).chart).limits.transitions) (λ code z. refused-explained c r x code z)
