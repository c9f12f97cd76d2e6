-- What is proved of specs/Stored.antt.
use Prim.Native.Nat.{ℕ, zero, suc, ◌≤◌, ◌<◌}
use Rattle.std.proofs.Math.Bool.{Bool, ◌||◌, not}
use Rattle.std.specs.Prelude.{true, false, ◌&&◌, cond, ◌≡◌, length, get_or, replicate, leb, ltb, eqb}
use mathlib.Core.List.{List, [], ◌∷◌}
use Rattle.std.proofs.Math.Path.{refl, sym, ap, ap₂}
use Rattle.std.proofs.Common.{◌∙◌, arith, eqb-true, ne_eqb, le-leb, lt-ltb, le-ltb}
use Rattle.std.proofs.lemmas.Bool.{lt-leb}
use Rattle.sets.specs.Loops.{some}
use Rattle.sets.specs.Sets.{has, union, named}
use Rattle.sets.proofs.Loops.{or-false, or-true, and_no, and_yes, some_same, none-some, get_or-table}
use Rattle.sets.proofs.Members.{has-zero, has_named}
use Rattle.sets.proofs.Below.{has-union, has-minus}
use Rattle.fields.specs.Fields.{N, R, S, L, D, P, SD, DS, SL, P1, P0}
use Rattle.chart.specs.Held.{chart_code}
use Rattle.chart.specs.declared.chart.Chart.{Chart}
use Rattle.chart.proofs.held.Sound.{Sound, sound}
use Rattle.acting.specs.Acting.{kept_count, request, request_of, sets, resets, asked, acted}
use Rattle.acting.specs.declared.Steps.{Steps}
use Rattle.acting.specs.declared.Request.{Request}
use Rattle.acting.specs.declared.Request.TheVariants.{Want}
use Rattle.run.specs.Run.{counter}
use Rattle.run.specs.declared.run.StepCounter.{StepCounter}
use Rattle.run.specs.declared.run.Run.{Run}
use Rattle.passes.specs.Explaining.{no_reasons}
use Rattle.passes.specs.Choosing.{steps_of}
use Rattle.passes.specs.Moving.{signals_of}
use Rattle.cycle.specs.Cycling.{accepted, refused, reasons_in, start_steps, settled, acted_on, counts_at, times_at, choice_of, marks_at, start_of, cycled}
use Rattle.cycle.specs.Answer.{Cycled}
use Rattle.claims.specs.Counters.{counter_in}
use Rattle.claims.proofs.Marks.{start-passes}
use Rattle.claims.specs.Runs.{Cycle, Call, answer, after, begun}
use Rattle.claims.proofs.Runs.{each-answer, each_start}
use Rattle.claims.specs.Stored.{block_active, setting, resetting, some_block, set_in, reset_in, answer_to, set_by, reset_by, from_on, set_since, touched, last_set}

-- ---- laws

-- a call is one of those from itself on and from each one before it on, and not of those from a later one on
from-on : (k j : ℕ) → k ≤ j → from_on k j ≡ true
from-on k j l = le-leb k j l

not-from-on : (k j : ℕ) → j < k → from_on k j ≡ false
not-from-on k j l = lt-leb k j l

-- some of n calls has w, and none of those from it on, by `on`, has q
module _ (w q : ℕ → Bool) (on : ℕ → ℕ → Bool) where
  abbrev free : ℕ → Bool
  free n = some (λ k. w k && not (some (λ j. on k j && q j) n)) n

  -- a call more, which is one of those from each before it on, while none of these is from it on
  free_more : (n : ℕ) → ((k : ℕ) → k < n → on k n ≡ true) → ((j : ℕ) → j < n → on n j ≡ false) → free (suc n) ≡ (free n && not (q n) || w n && not (on n n && q n))
  unfolding some
  free_more n far near =
      ap₂ ◌||◌ (some_same _ (kept (q n)) n (λ k l. ap (λ (b : Bool). w k && not (some (later k) n || b && q n)) (far k l)) ∙ go (q n))
      (ap (λ (b : Bool). w n && not (b || on n n && q n)) (none-some (later n) n (λ j l. ap (λ (b : Bool). b && q j) (near j l))))
    where
      later : ℕ → ℕ → Bool
      later k j = on k j && q j

      -- call k is such a one, by whether the new one has q
      kept : Bool → ℕ → Bool
      kept b k = w k && not (some (later k) n || b)

      go : (b : Bool) → some (kept b) n ≡ (free n && not b)
      go true = none-some (kept true) n (λ k l. ap (λ (b : Bool). w k && not b) (or-true (some (later k) n)) ∙ and_no (w k)) ∙ sym (and_no (free n))
      go false = some_same (kept false) _ n (λ k l. ap (λ (b : Bool). w k && not b) (or-false (some (later k) n))) ∙ and_yes (free n)

module _ (set reset : ℕ → Bool) where
  -- a call more: it is so after it if it was before or the call set it, and the call did not reset it
  since-more : (n : ℕ) → set_since set reset (suc n) ≡ ((set_since set reset n || set n) && not (reset n))
  since-more n =
      free_more set reset from_on n (λ k l. from-on k n (omega arith)) (λ j l. not-from-on n j l)
      ∙ ap (λ (b : Bool). set_since set reset n && not (reset n) || set n && not (b && reset n)) (from-on n n (omega arith))
      ∙ go (set_since set reset n) (set n) (reset n)
    where
      go : (a s r : Bool) → (a && not r || s && not r) ≡ ((a || s) && not r)
      go true s true = and_no s
      go true s false = refl
      go false s r = refl

  last_more : (n : ℕ) → last_set set reset (suc n) ≡ ((last_set set reset n || set n) && not (reset n))
  last_more n =
      free_more (λ k. touched set reset k && not (reset k)) (touched set reset) ltb n (λ k l. lt-ltb k n l) (λ j l. le-ltb n j (omega arith))
      ∙ ap (λ (b : Bool). last_set set reset n && not (touched set reset n) || touched set reset n && not (reset n) && not (b && touched set reset n)) (le-ltb n n (omega arith))
      ∙ go (last_set set reset n) (set n) (reset n)
    where
      go : (a s r : Bool) → (a && not (s || r) || (s || r) && not r && true) ≡ ((a || s) && not r)
      go true true true = refl
      go true true false = refl
      go true false true = refl
      go true false false = refl
      go false true true = refl
      go false true false = refl
      go false false true = refl
      go false false false = refl

  -- so both say the same
  last-since : (n : ℕ) → last_set set reset n ≡ set_since set reset n
  unfolding some
  last-since zero = refl
  last-since (suc n) = last_more n ∙ ap (λ (b : Bool). (b || set n) && not (reset n)) (last-since n) ∙ sym (since-more n)

  -- what each call makes of a mark in this way, the first from none, is so after all of them
  since-each : (mark : ℕ → Bool) (n : ℕ) → mark 0 ≡ (set 0 && not (reset 0)) → ((k : ℕ) → k < n → mark (suc k) ≡ ((mark k || set (suc k)) && not (reset (suc k))))
      → mark n ≡ set_since set reset (suc n)
  unfolding some
  since-each mark zero first h = first ∙ sym (since-more 0)
  since-each mark (suc n) first h =
      h n (omega arith) ∙ ap (λ (b : Bool). (b || set (suc n)) && not (reset (suc n))) (since-each mark n first (λ k l. h k (omega arith))) ∙ sym (since-more (suc n))

module _ (q d : ℕ) (on entered left : Bool) (count time : ℕ) where
  -- what a block asks if its qualifier is m
  abbrev asks : ℕ → Request
  asks m = request m d on entered left count time

  -- what it asks comes to f of its qualifier by g, if that is so of each qualifier, and of one that is none
  by-qualifier : (g : Request → Bool) (f : ℕ → Bool)
      → g (asks N) ≡ f N → g (asks R) ≡ f R → g (asks S) ≡ f S → g (asks L) ≡ f L → g (asks D) ≡ f D → g (asks P) ≡ f P → g (asks SD) ≡ f SD → g (asks DS) ≡ f DS → g (asks SL) ≡ f SL
      → g (asks P1) ≡ f P1 → g (asks P0) ≡ f P0 → (eqb q R ≡ false → eqb q S ≡ false → eqb q DS ≡ false → g (Want false) ≡ f q) → g (asks q) ≡ f q
  by-qualifier g f n r s l dd p sd ds sl p1 p0 other =
      by N _ _ n (λ _. by R _ _ r (λ notR. by S _ _ s (λ notS. by L _ _ l (λ _. by D _ _ dd (λ _. by P _ _ p (λ _. by SD _ _ sd (λ _. by DS _ _ ds (λ notDS.
      by SL _ _ sl (λ _. by P1 _ _ p1 (λ _. by P0 _ _ p0 (λ _. other notR notS notDS)))))))))))
    where
      by : (m : ℕ) (x y : Request) → g x ≡ f m → (eqb q m ≡ false → g y ≡ f q) → g (cond (eqb q m) x y) ≡ f q
      by m x y e h = go (eqb q m) refl
        where
          go : (b : Bool) → eqb q m ≡ b → g (cond b x y) ≡ f q
          go true i = e ∙ ap f (sym (eqb-true q m i))
          go false i = h i

  no : false ≡ (on && false)
  no = sym (and_no on)

  -- a block sets by S and DS alone
  sets-so : sets (asks q) ≡ (on && (eqb q S || eqb q DS && leb d count))
  sets-so = by-qualifier sets (λ m. on && (eqb m S || eqb m DS && leb d count)) no no (and_yes on) no no no no refl no no no (λ r s z. rw (s, z) no)

  -- and resets by R alone
  resets-so : resets (asks q) ≡ (on && eqb q R)
  resets-so = by-qualifier resets (λ m. on && eqb m R) no (and_yes on) no no no no no no no no no (λ r s z. rw r no)

-- action a is stored in the run r as the run's own steps and counters leave it: what they set is stored, and what they reset is not
abbrev Settled : Chart → ℕ → Run → Type 0
Settled c a r = has r.stored a ≡ ((has r.stored a || some_block c a (setting c r)) && not (some_block c a (resetting c r)))

-- what a call that answered o did to it, which was stored before or not
record Stores (c : Chart) (a : ℕ) (before : Bool) (o : Cycled) : Type 0 where
  stored : has o.run.stored a ≡ ((before || set_in c o a) && not (reset_in c o a))
  settles : Settled c a o.run

-- what is set and reset so is no other when it is done again
once_more : (x before set reset : Bool) → x ≡ ((before || set) && not reset) → x ≡ ((x || set) && not reset)
once_more x before set reset e = rw e (go before set reset)
  where
    go : (b s r : Bool) → ((b || s) && not r) ≡ (((b || s) && not r || s) && not r)
    go b s true = and_no (b || s) ∙ sym (and_no ((b || s) && false || s))
    go true s false = refl
    go false true false = refl
    go false false false = refl

-- paragraphs 4 to 6 of an accepted call, by the run that they leave
module _ (c : Chart) (s : Sound c) (a : ℕ) (l : a < c.actions) (clock : ℕ) (counts times : List ℕ) (steps : Steps) (stored latched good bad hold : ℕ) where
  abbrev now : Run
  now = settled clock counts times steps (acted_on c counts times steps stored latched) good bad hold

  -- block b's request
  abbrev asks_at : ℕ → Request
  asks_at = request_of c.blockstep c.blockaction c.qualifier c.duration counts times steps

  in-set : a < 64
  in-set = let m = s.limits.actions in omega (arith, m, l)

  -- what blocks come to by g is told by their steps and counters as they then are
  block-by : (g : Request → Bool) (p : ℕ → Bool) → ((b : ℕ) → b < c.blocks → g (asks_at b) ≡ p b) → has (named (λ b. g (asks_at b)) (λ b. get_or c.blockaction b 0) c.blocks) a ≡ some_block c a p
  block-by g p h =
      has_named (λ b. g (asks_at b)) (λ b. get_or c.blockaction b 0) c.blocks a in-set
      ∙ some_same _ _ c.blocks (λ b m. ap (λ (t : Bool). t && eqb (get_or c.blockaction b 0) a) (h b m))

  module _ (b : ℕ) (m : b < c.blocks) where
    -- its step, qualifier, duration, and the counter and the timer by which it asks
    abbrev k : ℕ
    k = get_or c.blockstep b 0

    abbrev q : ℕ
    q = get_or c.qualifier b 0

    abbrev d : ℕ
    d = get_or c.duration b 0

    abbrev count : ℕ
    count = kept_count steps.kept k (get_or counts k 0)

    abbrev time : ℕ
    time = get_or times (get_or c.blockaction b 0) 0

    -- the counter is the one that the run then has
    count_left : count ≡ counter_in now k
    count_left =
        let few = s.limits.steps in
        let own = s.blockstep b m in
        sym (ap (λ (n : StepCounter). n.0) (get_or-table (λ j. counter (kept_count steps.kept j (get_or counts j 0))) 64 k (counter 0) (omega (arith, few, own))))

    sets-at : sets (asks_at b) ≡ setting c now b
    sets-at = sets-so q d (has steps.active k) (has steps.entered k) (has steps.left k) count time ∙ ap (λ (n : ℕ). block_active c now b && (eqb q S || eqb q DS && leb d n)) count_left

    resets-at : resets (asks_at b) ≡ resetting c now b
    resets-at = resets-so q d (has steps.active k) (has steps.entered k) (has steps.left k) count time

  settled-stored : has now.stored a ≡ ((has stored a || some_block c a (setting c now)) && not (some_block c a (resetting c now)))
  unfolding acted asked
  settled-stored =
      has-minus _ _ a in-set
      ∙ ap₂ (λ (x y : Bool). x && not y) (has-union stored _ a in-set ∙ ap (λ (x : Bool). has stored a || x) (block-by sets (setting c now) sets-at)) (block-by resets (resetting c now) resets-at)

  settled-stores : (taken : ℕ) (reasons : List ℕ) → Stores c a (has stored a) (accepted taken reasons now)
  settled-stores taken reasons = record {
    stored = settled-stored;
    settles = once_more (has now.stored a) (has stored a) (some_block c a (setting c now)) (some_block c a (resetting c now)) settled-stored;
  }

module _ (c : Chart) (passes : chart_code c ≡ 0) (a : ℕ) (l : a < c.actions) where
  -- a refused call adds nothing
  stores-refused : (r : Run) (code : ℕ) → (code ≡ 0 → ⊥) → Settled c a r → Stores c a (has r.stored a) (refused code r)
  stores-refused r code z i = record {
    stored = rw (ne_eqb code 0 z) (sym (or-false (has r.stored a)) ∙ and_yes (has r.stored a || false));
    settles = i;
  }

  stores-cycled : (r : Run) (x : Cycle) → Stores c a (has r.stored a) (cycled c r x.clock x.inputs)
  stores-cycled r x =
      let counts = counts_at r x.clock in
      let signals = signals_of x.inputs r.activity in
      let ch = choice_of c r counts signals in
      settled-stores c (sound c passes) a l x.clock counts (times_at r x.clock) (steps_of r.active ch) r.stored r.latched
      (union r.good (marks_at c ch.left signals).good) (union r.bad (marks_at c ch.left signals).bad) r.hold ch.taken (reasons_in c r counts signals)

  -- any call that is given a run which a call left: a turn of the key sets and resets what that call did
  stores : (r : Run) (x : Call) → Settled c a r → Stores c a (has r.stored a) (answer c r x)
  stores r x i =
      each-answer (λ x o. Stores c a (has r.stored a) o) c r (λ x e. stores-cycled r x) (λ held. record { stored = i; settles = i }) (λ x code z. stores-refused r code z i) x

  -- an accepted start, from nothing stored
  start-stores : (clock lent : ℕ) → (start_of c clock lent).code ≡ 0 → Stores c a false (start_of c clock lent)
  start-stores clock lent =
      each_start (λ o. o.code ≡ 0 → Stores c a false o) c clock lent
      (λ e h. rw (sym (has-zero a)) (settled-stores c (sound c passes) a l clock (replicate 64 0) (replicate 32 0) (start_steps c) 0 0 0 0 0 0 no_reasons)) (λ code z h. absurd (z h))

  -- call k + 1 of a run of calls is given the run that call k returned
  each-call : (o : Cycled) → Settled c a o.run → (xs : List Call) (k : ℕ) → k < length xs → Stores c a (has (answer_to c o xs k).run.stored a) (answer_to c o xs (suc k))
  unfolding answer_to
  each-call o i [] k m = absurd (omega arith)
  each-call o i (x ∷ xs) zero m = stores o.run x i
  each-call o i (x ∷ xs) (suc k) m = each-call (answer c o.run x) (stores o.run x i).settles xs k (omega (arith, m))

-- the run after the calls is the one that the last of them returned
last-run : (c : Chart) (o : Cycled) (xs : List Call) → after c o.run xs ≡ (answer_to c o xs (length xs)).run
unfolding after answer_to
last-run c o [] = refl
last-run c o (x ∷ xs) = last-run c (answer c o.run x) xs

-- ---- the theorems

-- after any calls from an accepted start, in either edition, holds and releases among them
module _ (c : Chart) (clock lent : ℕ) (e : (start_of c clock lent).code ≡ 0) (xs : List Call) (a : ℕ) (l : a < c.actions) where
  pub stored-since : has (after c (begun c clock lent) xs).stored a ≡ set_since (set_by c (start_of c clock lent) xs a) (reset_by c (start_of c clock lent) xs a) (suc (length xs))
  unfolding answer_to
  stored-since =
      let o = start_of c clock lent in
      let passes = start-passes c clock lent e in
      let first = start-stores c passes a l clock lent e in
      ap (λ (r : Run). has r.stored a) (last-run c o xs)
      ∙ since-each (set_by c o xs a) (reset_by c o xs a) (λ n. has (answer_to c o xs n).run.stored a) (length xs) first.stored (λ k m. (each-call c passes a l o first.settles xs k m).stored)

  pub stored_last : has (after c (begun c clock lent) xs).stored a ≡ last_set (set_by c (start_of c clock lent) xs a) (reset_by c (start_of c clock lent) xs a) (suc (length xs))
  stored_last = stored-since ∙ sym (last-since (set_by c (start_of c clock lent) xs a) (reset_by c (start_of c clock lent) xs a) (suc (length xs)))
