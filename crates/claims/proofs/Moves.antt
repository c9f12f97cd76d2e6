-- What is proved of specs/Moves.antt.
use Prim.{tt}
use Rattle.std.specs.Prelude.{ℕ, zero, suc, ◌+◌, ◌≤◌, ◌<◌, Bool, true, false, cond, ◌&&◌, ◌||◌, not, List, ◌≡◌, refl, get_or, eqb, ltb}
use Rattle.std.proofs.Math.Path.{sym}
use Rattle.std.proofs.Common.{ap, ap₂, ◌∙◌, arith, eq-eqb, ne_eqb, ltb-true, ltb-false}
use Rattle.std.proofs.Math.Dec.{lit<}
use Rattle.sets.specs.Loops.{some, summed, turns}
use Rattle.sets.specs.Sets.{has, union, minus, insert}
use Rattle.sets.proofs.Loops.{or-false, some_same}
use Rattle.sets.proofs.Members.{has-collect, collect-lt, has-high, has-zero}
use Rattle.sets.proofs.Below.{has-union, has-minus, within_has, apart-has, either, never}
use Rattle.sets.proofs.Counts.{counted_same}
use Rattle.choice.specs.Choice.{reason, tested, takes, choosing_at, none_taken, chosen, held}
use Rattle.choice.specs.declared.Choice.{Choice}
use Rattle.choice.proofs.Laws.{Free, taken_free}
use Rattle.chart.specs.declared.chart.Chart.{Chart}
use Rattle.run.specs.declared.run.Run.{Run}
use Rattle.passes.specs.Choosing.{moved_to}
use Rattle.cycle.specs.Cycling.{choice_of}
use Rattle.claims.specs.AtLeast.{AtLeast}
use Rattle.claims.proofs.AtLeast.{same}
use Rattle.claims.specs.Runs.{one}
use Rattle.claims.specs.Moves.{among, any, Chosen}

-- ---- one transition more

-- the set with n has n, and what it had
pub has-insert : (s n t : ℕ) → t < 64 → has (insert s n) t ≡ (has s t || eqb t n)
has-insert s n t l = has-collect (λ j. has s j || eqb j n) 64 t l

-- and nothing new beyond n
none-beyond : (s n t : ℕ) → suc n ≤ t → has s t ≡ false → has (insert s n) t ≡ false
none-beyond s n t l e = go (ltb t 64) refl
  where
    go : (b : Bool) → ltb t 64 ≡ b → has (insert s n) t ≡ false
    go true q = has-insert s n t (ltb-true t 64 q) ∙ ap₂ ◌||◌ e (ne_eqb t n (λ z. omega arith))
    go false q = has-high 64 (insert s n) t (collect-lt _ 64) (ltb-false t 64 q)

-- not taken, it adds nothing to a count
skip : (l : List ℕ) (n s k : ℕ) → has s n ≡ false → among l (suc n) s k ≡ among l n s k
unfolding summed
skip l n s k h = rw h (omega arith)

-- the set with n has what it had below n, and n
insert-old : (s n t : ℕ) → n < 64 → t < n → has (insert s n) t ≡ has s t
insert-old s n t m q = has-insert s n t (omega arith) ∙ ap (λ (b : Bool). has s t || b) (ne_eqb t n (λ e. omega arith)) ∙ or-false (has s t)

insert-self : (s n : ℕ) → n < 64 → has s n ≡ false → has (insert s n) n ≡ true
insert-self s n m h = has-insert s n n m ∙ ap₂ ◌||◌ h (eq-eqb n n refl)

-- taken, it adds one if it has k
add : (l : List ℕ) (n s k : ℕ) → n < 64 → has s n ≡ false → among l (suc n) (insert s n) k ≡ among l n s k + one (has (get_or l n 0) k)
unfolding summed
add l n s k m h =
    ap₂ ◌+◌ (counted_same (λ t. has (insert s n) t && has (get_or l t 0) k) (λ t. has s t && has (get_or l t 0) k) n
    (λ t q. ap (λ (b : Bool). b && has (get_or l t 0) k) (insert-old s n t m q)))
    (ap (λ (b : Bool). one (b && has (get_or l n 0) k)) (insert-self s n m h))

-- and so it is of some
skip-any : (l : List ℕ) (n s k : ℕ) → has s n ≡ false → any l (suc n) s k ≡ any l n s k
unfolding some
skip-any l n s k h = rw h (or-false (any l n s k))

add-any : (l : List ℕ) (n s k : ℕ) → n < 64 → has s n ≡ false → any l (suc n) (insert s n) k ≡ (any l n s k || has (get_or l n 0) k)
unfolding some
add-any l n s k m h =
    ap₂ ◌||◌ (some_same (λ t. has (insert s n) t && has (get_or l t 0) k) (λ t. has s t && has (get_or l t 0) k) n
    (λ t q. ap (λ (b : Bool). b && has (get_or l t 0) k) (insert-old s n t m q)))
    (ap (λ (b : Bool). b && has (get_or l n 0) k) (insert-self s n m h))

-- two tests of which at most one holds
one-or : (a b : Bool) → (b ≡ true → a ≡ false) → one a + one b ≡ one (a || b)
one-or true true h = never (sym (h refl))
one-or true false h = refl
one-or false true h = refl
one-or false false h = refl

-- two tests
one-or-most : (a b : Bool) → one (a || b) ≤ one a + one b
one-or-most true b = omega arith
one-or-most false b = omega arith

-- ---- the choosing

module _ (edition : ℕ) (sources targets : List ℕ) (active : ℕ) where
  -- before the first
  start : Chosen edition sources targets active 0 none_taken
  unfolding summed some
  start = record {
    new = λ t l. has-zero t;
    leaves = λ k l. sym (ap one (has-zero k));
    enters = λ k l. same (sym (ap one (has-zero k)));
    claims = λ k l. has-zero k;
    word = lit< tt;
    was = λ k l h. never (sym (has-zero k) ∙ h);
    wasnt = λ q k l h. never (sym (has-zero k) ∙ h);
  }

  -- one that is not taken
  pass : (n : ℕ) (ch : Choice) → Chosen edition sources targets active n ch → Chosen edition sources targets active (suc n) ch
  pass n ch i = record {
    new = λ t l. i.new t (omega arith);
    leaves = λ k l. skip sources n ch.taken k (i.new n (omega arith)) ∙ i.leaves k l;
    enters = λ k l. rw (skip targets n ch.taken k (i.new n (omega arith))) (i.enters k l);
    claims = λ k l. i.claims k l ∙ sym (skip-any targets n ch.taken k (i.new n (omega arith)));
    word = i.word;
    was = i.was;
    wasnt = i.wasnt;
  }

  -- one that is
  take : (n : ℕ) (ch : Choice) → n < 64 → Chosen edition sources targets active n ch → Free (get_or sources n 0) (tested edition (get_or targets n 0)) active ch
      → Chosen edition sources targets active (suc n) (takes ch n (get_or sources n 0) (get_or targets n 0))
  take n ch m i r = record {
    new = λ t l. none-beyond ch.taken n t l (i.new t (omega arith));
    leaves = λ k l. disjoint sources ch.left k l (i.leaves k l) (apart-has f ch.left r.unused k l);
    enters = λ k l.
        let x = i.enters k l in
        record {
          least = omega (arith, x.least, more targets k, ap one (has-union ch.claimed g k l), one-or-most (has ch.claimed k) (has g k));
          equal = λ q. disjoint targets ch.claimed k l (x.equal q) (apart-has g ch.claimed (rw q at r.unclaimed) k l);
        };
    claims = λ k l. has-union ch.claimed g k l ∙ ap (λ (b : Bool). b || has g k) (i.claims k l) ∙ sym (add-any targets n ch.taken k m (i.new n (omega arith)));
    word = collect-lt _ 64;
    was = λ k l h. either (has ch.left k) (has f k) (sym (has-union ch.left f k l) ∙ h) (i.was k l) (within_has f active r.sources k l);
    wasnt = λ q k l h. either (has ch.claimed k) (has g k) (sym (has-union ch.claimed g k l) ∙ h) (i.wasnt q k l) (apart-has g active (rw q at r.targets) k l);
  }
    where
      f : ℕ
      f = get_or sources n 0

      g : ℕ
      g = get_or targets n 0

      more : (l : List ℕ) (k : ℕ) → among l (suc n) (insert ch.taken n) k ≡ among l n ch.taken k + one (has (get_or l n 0) k)
      more l k = add l n ch.taken k m (i.new n (omega arith))

      disjoint : (l : List ℕ) (s k : ℕ) → k < 64 → among l n ch.taken k ≡ one (has s k) → (has (get_or l n 0) k ≡ true → has s k ≡ false)
          → among l (suc n) (insert ch.taken n) k ≡ one (has (union s (get_or l n 0)) k)
      disjoint l s k q e d =
          more l k ∙ ap (λ (x : ℕ). x + one (has (get_or l n 0) k)) e
          ∙ one-or (has s k) (has (get_or l n 0) k) d ∙ sym (ap one (has-union s (get_or l n 0) k q))

-- what is chosen of n transitions is so; a set has no more than 64
pub chosen_is : (edition n : ℕ) (sources targets on off wait counts : List ℕ) (active signals : ℕ) → n ≤ 64
    → Chosen edition sources targets active n (chosen edition n sources targets on off wait counts active signals)
unfolding chosen turns
chosen_is edition zero sources targets on off wait counts active signals h = start edition sources targets active
chosen_is edition (suc n) sources targets on off wait counts active signals h =
    go (eqb (reason now f (tested edition g) (get_or on n 0) (get_or off n 0) (get_or wait n 0) counts active signals) 0) refl
    (chosen_is edition n sources targets on off wait counts active signals (omega arith))
  where
    f : ℕ
    f = get_or sources n 0

    g : ℕ
    g = get_or targets n 0

    now : Choice
    now = turns (choosing_at edition sources targets on off wait counts active signals) none_taken n

    go : (b : Bool) → eqb (reason now f (tested edition g) (get_or on n 0) (get_or off n 0) (get_or wait n 0) counts active signals) 0 ≡ b
        → Chosen edition sources targets active n now → Chosen edition sources targets active (suc n) (cond b (takes now n f g) now)
    go true e i =
        take edition sources targets active n now (omega arith) i
        (taken_free now f (tested edition g) (get_or on n 0) (get_or off n 0) (get_or wait n 0) counts active signals e)
    go false e i = pass edition sources targets active n now i

-- none is, of any number of transitions
pub none_is : (edition n : ℕ) (sources targets : List ℕ) (active : ℕ) → Chosen edition sources targets active n none_taken
none_is edition zero sources targets active = start edition sources targets active
none_is edition (suc n) sources targets active = pass edition sources targets active n none_taken (none_is edition n sources targets active)

-- what a cycle chooses is so, under hold too
pub choice-is : (c : Chart) (r : Run) (counts : List ℕ) (signals : ℕ) → c.transitions ≤ 64 → Chosen c.edition c.sources c.targets r.active c.transitions (choice_of c r counts signals)
choice-is c r counts signals h = go (held r.hold)
  where
    go : (b : Bool) → Chosen c.edition c.sources c.targets r.active c.transitions
        (cond b none_taken (chosen c.edition c.transitions c.sources c.targets c.on c.off c.wait counts r.active signals))
    go true = none_is c.edition c.transitions c.sources c.targets r.active
    go false = chosen_is c.edition c.transitions c.sources c.targets c.on c.off c.wait counts r.active signals h

-- ---- the move

-- a step left was active; and if a target was not
one-moved : (a l c : Bool) → (l ≡ true → a ≡ true) → (c ≡ true → a ≡ false) → one c + one a ≡ one l + one (a && not l || c)
one-moved true l true f g = never (sym (g refl))
one-moved true true false f g = refl
one-moved true false false f g = refl
one-moved false true c f g = never (f refl)
one-moved false false true f g = refl
one-moved false false false f g = refl

one-moved-most : (a l c : Bool) → (l ≡ true → a ≡ true) → one l + one (a && not l || c) ≤ one c + one a
one-moved-most true true c f = omega arith
one-moved-most true false c f = omega arith
one-moved-most false true c f = never (f refl)
one-moved-most false false c f = omega arith

-- arrivals plus active before is at least departures plus active after, step by step, and just that in the first edition
pub moved : (edition : ℕ) (sources targets : List ℕ) (active n : ℕ) (ch : Choice) → Chosen edition sources targets active n ch → (k : ℕ) → k < 64
    → AtLeast edition (among targets n ch.taken k + one (has active k)) (among sources n ch.taken k + one (has (moved_to active ch) k))
moved edition sources targets active n ch i k l =
    let x = i.enters k l in
    let after : one (has active k && not (has ch.left k) || has ch.claimed k) ≡ one (has (moved_to active ch) k)
    = ap one (sym (has-union (minus active ch.left) ch.claimed k l ∙ ap (λ (b : Bool). b || has ch.claimed k) (has-minus active ch.left k l))) in
    record {
      least = omega (arith, x.least, i.leaves k l, after, one-moved-most (has active k) (has ch.left k) (has ch.claimed k) (i.was k l));
      equal = λ q. omega (arith, x.equal q, i.leaves k l, after, one-moved (has active k) (has ch.left k) (has ch.claimed k) (i.was k l) (i.wasnt q k l));
    }
