-- An accepted start and an accepted cycle return a run that belongs to the chart: a run that the engine made is never refused 12 by its chart.
use Prim.Native.Nat.{ℕ, zero, suc, ◌≤◌, ◌<◌}
use mathlib.Core.List.{List}
use mathlib.Core.Bool.{Bool, true, false, not, cond}
use mathlib.Core.Path.{◌≡◌, refl, sym, ap, ◌∙◌}
use native.Mathlib.Omega.{arith}
use lib.ListN.{get_or, replicate}
use lib.Dec.{leb, eqb}
use borrow.Author.Tests.{le-leb, eqb-true, eqb-false}
use Rattle.sets.specs.Loops.{turns}
use Rattle.sets.specs.Sets.{has, Below, union, inter, minus}
use Rattle.sets.proofs.Loops.{and-true, or-true, true-all, else-zero, get_or-table}
use Rattle.sets.proofs.Members.{has-zero}
use Rattle.sets.proofs.Below.{below-zero, below-collect, below-union, below-inter, below-minus, below-named, has-minus}
use Rattle.fields.specs.Fields.{unless}
use Rattle.chart.specs.Held.{chart_code}
use Rattle.chart.specs.Initial.{initial_set}
use Rattle.chart.specs.declared.chart.Chart.{Chart}
use Rattle.chart.proofs.held.Sound.{Sound, sound}
use Rattle.choice.specs.Choice.{reason, tested, takes, choosing_at, none_taken, chosen, held}
use Rattle.choice.specs.declared.Choice.{Choice}
use Rattle.acting.specs.Acting.{kept_count, sets, latches, wants, request_of, asked, stored_after, latched_after, acted}
use Rattle.acting.specs.declared.Steps.{Steps}
use Rattle.acting.specs.declared.Asked.{Asked}
use Rattle.acting.specs.declared.Acted.{Acted}
use Rattle.run.specs.Run.{longest, longer, counter, timer, no_run}
use Rattle.run.specs.Belongs.{count_fits, counters_fit, timers_fit, belongs}
use Rattle.run.specs.declared.run.Run.{Run}
use Rattle.run.proofs.belongs.Laws.{Own, own, is-own}
use Rattle.passes.specs.Time.{elapsed, step_time, grown_count, grown_time}
use Rattle.passes.specs.Choosing.{moved_to, entered_by, steps_of}
use Rattle.passes.specs.Moving.{settled_counters, settled_timers, marks_of, signals_of}
use Rattle.cycle.specs.Cycling.{refused, start_code, cycle_code, acted_on, start_steps, started, start_of, counts_at, times_at, choice_of, cycled, cycle_of}
use Rattle.cycle.specs.Answer.{Cycled}
use Rattle.cycle.proofs.cycling.Laws.{cycle-passed}

-- ---- counts

-- a kept count fits, and any other is 0
kept-fits : (set kept k n : ℕ) → n ≤ longest → (has kept k ≡ true → has set k ≡ true) → count_fits set k (kept_count kept k n) ≡ true
kept-fits set kept k n h g = go (has kept k) refl
  where
    go : (b : Bool) → has kept k ≡ b → count_fits set k (cond b n 0) ≡ true
    go true e = rw (le-leb n longest h, g e)
    go false e = or-true (has set k)

counters-fit : (counts : List ℕ) (set kept : ℕ) → ((k : ℕ) → k < 64 → get_or counts k 0 ≤ longest) → ((k : ℕ) → k < 64 → has kept k ≡ true → has set k ≡ true)
    → counters_fit (settled_counters counts kept) set ≡ true
counters-fit counts set kept h g =
    true-all _ 64 (λ k l. rw (get_or-table (λ k. counter (kept_count kept k (get_or counts k 0))) 64 k (counter 0) l) (kept-fits set kept k (get_or counts k 0) (h k l) (g k l)))

timers-fit : (times : List ℕ) (set : ℕ) → ((k : ℕ) → k < 32 → get_or times k 0 ≤ longest) → timers_fit (settled_timers times set) set ≡ true
timers-fit times set h =
    true-all _ 32 (λ k l. rw (get_or-table (λ k. timer (kept_count set k (get_or times k 0))) 32 k (timer 0) l) (kept-fits set set k (get_or times k 0) (h k l) (λ e. e)))

grown-fits : (b : Bool) (n e : ℕ) → cond b (longer e n) 0 ≤ longest
grown-fits true n e = omega arith
grown-fits false n e = omega arith

blank : (n i : ℕ) → get_or (replicate n 0) i 0 ≤ longest
blank zero i = omega arith
blank (suc n) zero = omega arith
blank (suc n) (suc i) = blank n i

-- ---- the actions

record Actions (n : ℕ) (x : Acted) : Type 0 where
  pub stored : Below x.stored n ≡ true
  pub latched : Below x.latched n ≡ true
  pub activity : Below x.activity n ≡ true

acted-below : (n : ℕ) (x : Asked) (stored latched : ℕ) → Below x.set n ≡ true → Below x.latch n ≡ true → Below x.want n ≡ true
    → Below stored n ≡ true → Below latched n ≡ true → Actions n (acted x stored latched)
unfolding acted
acted-below n x stored latched a b d e f =
    let kept : Below (stored_after x stored) n ≡ true = below-minus (union stored x.set) x.reset n (below-union stored x.set n e a) in
    let held : Below (latched_after x latched) n ≡ true = below-minus (union latched x.latch) x.reset n (below-union latched x.latch n f b) in
    let late : Below (inter (latched_after x latched) x.ripe) n ≡ true = below-inter (latched_after x latched) x.ripe n held in
    record {
      stored = kept;
      latched = held;
      activity = below-minus _ x.reset n (below-union x.want _ n d (below-union (stored_after x stored) (inter (latched_after x latched) x.ripe) n kept late));
    }

-- what blocks ask, they ask of actions that exist
module _ (n m : ℕ) (step action qualifier duration counts times : List ℕ) (steps : Steps) (h : (b : ℕ) → b < m → get_or action b 0 < n) where
  set_below : Below (asked m step action qualifier duration counts times steps).set n ≡ true
  unfolding asked
  set_below = below-named (λ b. sets (request_of step action qualifier duration counts times steps b)) (λ b. get_or action b 0) m n h

  latch-below : Below (asked m step action qualifier duration counts times steps).latch n ≡ true
  unfolding asked
  latch-below = below-named (λ b. latches (request_of step action qualifier duration counts times steps b)) (λ b. get_or action b 0) m n h

  want-below : Below (asked m step action qualifier duration counts times steps).want n ≡ true
  unfolding asked
  want-below = below-named (λ b. wants (request_of step action qualifier duration counts times steps b)) (λ b. get_or action b 0) m n h

actions-below : (c : Chart) (counts times : List ℕ) (steps : Steps) (stored latched : ℕ) → Sound c → Below stored c.actions ≡ true → Below latched c.actions ≡ true
    → Actions c.actions (acted_on c counts times steps stored latched)
actions-below c counts times steps stored latched s e f =
    acted-below c.actions (asked c.blocks c.blockstep c.blockaction c.qualifier c.duration counts times steps) stored latched
    (set_below c.actions c.blocks c.blockstep c.blockaction c.qualifier c.duration counts times steps s.blockaction)
    (latch-below c.actions c.blocks c.blockstep c.blockaction c.qualifier c.duration counts times steps s.blockaction)
    (want-below c.actions c.blocks c.blockstep c.blockaction c.qualifier c.duration counts times steps s.blockaction)
    e f

-- ---- the steps

claimed-below : (edition n steps : ℕ) (sources targets on off wait counts : List ℕ) (active signals : ℕ) → ((t : ℕ) → t < n → Below (get_or targets t 0) steps ≡ true)
    → Below (chosen edition n sources targets on off wait counts active signals).claimed steps ≡ true
unfolding chosen turns
claimed-below edition zero steps sources targets on off wait counts active signals h = below-zero steps
claimed-below edition (suc n) steps sources targets on off wait counts active signals h =
    go (eqb (reason before (get_or sources n 0) (tested edition (get_or targets n 0)) (get_or on n 0) (get_or off n 0) (get_or wait n 0) counts active signals) 0)
    (claimed-below edition n steps sources targets on off wait counts active signals (λ t l. h t (omega arith)))
  where
    before : Choice
    before = turns (choosing_at edition sources targets on off wait counts active signals) none_taken n

    go : (b : Bool) → Below before.claimed steps ≡ true → Below (cond b (takes before n (get_or sources n 0) (get_or targets n 0)) before).claimed steps ≡ true
    go true e = below-union before.claimed (get_or targets n 0) steps e (h n (omega arith))
    go false e = e

-- under hold none is claimed
claimed-under : (b : Bool) (edition n steps : ℕ) (sources targets on off wait counts : List ℕ) (active signals : ℕ) → ((t : ℕ) → t < n → Below (get_or targets t 0) steps ≡ true)
    → Below (cond b none_taken (chosen edition n sources targets on off wait counts active signals)).claimed steps ≡ true
claimed-under true edition n steps sources targets on off wait counts active signals h = below-zero steps
claimed-under false edition n steps sources targets on off wait counts active signals h = claimed-below edition n steps sources targets on off wait counts active signals h

-- ---- start, and a cycle

started-own : (c : Chart) (clock : ℕ) → Sound c → Own c (started c clock).run
unfolding initial_set
started-own c clock s =
    let x = actions-below c (replicate 64 0) (replicate 32 0) (start_steps c) 0 0 s (below-zero c.actions) (below-zero c.actions) in
    record {
      active = below-collect _ c.steps c.steps (omega arith);
      activity = x.activity;
      stored = x.stored;
      latched = x.latched;
      good = below-zero c.cases;
      bad = below-zero c.cases;
      counters = counters-fit (replicate 64 0) _ 0 (λ k l. blank 64 k) (λ k l e. let z : false ≡ true = sym (has-zero k) ∙ e in cc);
      timers = timers-fit (replicate 32 0) _ (λ k l. blank 32 k);
      hold = refl;
    }

cycled-own : (c : Chart) (r : Run) (clock inputs : ℕ) → Sound c → Own c r → Own c (cycled c r clock inputs).run
unfolding marks_of
cycled-own c r clock inputs s o =
    let e = elapsed r.clock clock in
    let f = step_time r.hold e in
    let counts = counts_at r clock in
    let times = times_at r clock in
    let signals = signals_of inputs r.activity in
    let ch = choice_of c r counts signals in
    let x = actions-below c counts times (steps_of r.active ch) r.stored r.latched s o.stored o.latched in
    record {
      active = below-union _ _ c.steps (below-minus r.active ch.left c.steps o.active) (claimed-under (held r.hold) c.edition c.transitions c.steps c.sources c.targets c.on c.off c.wait counts r.active signals s.targets);
      activity = x.activity;
      stored = x.stored;
      latched = x.latched;
      good = below-union r.good _ c.cases o.good (below-collect _ c.cases c.cases (omega arith));
      bad = below-union r.bad _ c.cases o.bad (below-collect _ c.cases c.cases (omega arith));
      counters = counters-fit counts (moved_to r.active ch) (minus (moved_to r.active ch) (entered_by r.active ch))
          (λ k l. rw (get_or-table (λ k. grown_count r.active f k (get_or r.counters k (counter 0))) 64 k 0 l) (grown-fits (has r.active k) _ f))
          (λ k l h. (and-true (has (moved_to r.active ch) k) (not (has (entered_by r.active ch) k)) (sym (has-minus (moved_to r.active ch) (entered_by r.active ch) k l) ∙ h)).0);
      timers = timers-fit times _ (λ k l. rw (get_or-table (λ k. grown_time r.latched e k (get_or r.timers k (timer 0))) 32 k 0 l) (grown-fits (has r.latched k) _ e));
      hold = o.hold;
    }

-- ---- the theorems

accepted-start : (c : Chart) (clock lent : ℕ) → (start_of c clock lent).code ≡ 0 → start_code c lent ≡ 0
accepted-start c clock lent = go (eqb (start_code c lent) 0) refl
  where
    go : (b : Bool) → eqb (start_code c lent) 0 ≡ b → (cond b (started c clock) (refused (start_code c lent) no_run)).code ≡ 0 → start_code c lent ≡ 0
    go true e h = eqb-true _ 0 e
    go false e h = h

accepted-cycle : (c : Chart) (r : Run) (clock inputs lent : ℕ) → (cycle_of c r clock inputs lent).code ≡ 0 → cycle_code c r clock lent ≡ 0
accepted-cycle c r clock inputs lent = go (eqb (cycle_code c r clock lent) 0) refl
  where
    go : (b : Bool) → eqb (cycle_code c r clock lent) 0 ≡ b → (cond b (cycled c r clock inputs) (refused (cycle_code c r clock lent) r)).code ≡ 0 → cycle_code c r clock lent ≡ 0
    go true e h = eqb-true _ 0 e
    go false e h = h

pub start-belongs : (c : Chart) (clock lent : ℕ) → (start_of c clock lent).code ≡ 0 → belongs c (start_of c clock lent).run ≡ true
start-belongs c clock lent h =
    let e = accepted-start c clock lent h in
    let s = sound c (else-zero (unless (leb 32 lent) 15) (chart_code c) e).1 in
    rw e (is-own c (started c clock).run (started-own c clock s))

pub cycle-belongs : (c : Chart) (r : Run) (clock inputs lent : ℕ) → (cycle_of c r clock inputs lent).code ≡ 0 → belongs c (cycle_of c r clock inputs lent).run ≡ true
cycle-belongs c r clock inputs lent h =
    let e = accepted-cycle c r clock inputs lent h in
    let p = cycle-passed c r clock lent e in
    rw e (is-own c (cycled c r clock inputs).run (cycled-own c r clock inputs (sound c p.chart) (own c r p.run)))

-- "A refused start returns an all-zero run, a refused cycle the run it was given, both with no transition taken"
pub start-refused : (c : Chart) (clock lent : ℕ) → ((start_of c clock lent).code ≡ 0 → ⊥) → start_of c clock lent ≡ refused (start_code c lent) no_run
start-refused c clock lent = go (eqb (start_code c lent) 0)
  where
    go : (b : Bool) → ((cond b (started c clock) (refused (start_code c lent) no_run)).code ≡ 0 → ⊥) → cond b (started c clock) (refused (start_code c lent) no_run) ≡ refused (start_code c lent) no_run
    go true z = absurd (z refl)
    go false z = refl

pub cycle-refused : (c : Chart) (r : Run) (clock inputs lent : ℕ) → ((cycle_of c r clock inputs lent).code ≡ 0 → ⊥) → cycle_of c r clock inputs lent ≡ refused (cycle_code c r clock lent) r
cycle-refused c r clock inputs lent = go (eqb (cycle_code c r clock lent) 0)
  where
    go : (b : Bool) → ((cond b (cycled c r clock inputs) (refused (cycle_code c r clock lent) r)).code ≡ 0 → ⊥)
        → cond b (cycled c r clock inputs) (refused (cycle_code c r clock lent) r) ≡ refused (cycle_code c r clock lent) r
    go true z = absurd (z refl)
    go false z = refl

-- so a cycle, accepted or refused, answers with a run that belongs to the chart, if it was given one
pub cycle-keeps : (c : Chart) (r : Run) (clock inputs lent : ℕ) → belongs c r ≡ true → belongs c (cycle_of c r clock inputs lent).run ≡ true
cycle-keeps c r clock inputs lent h = go (eqb (cycle_of c r clock inputs lent).code 0) refl
  where
    go : (b : Bool) → eqb (cycle_of c r clock inputs lent).code 0 ≡ b → belongs c (cycle_of c r clock inputs lent).run ≡ true
    go true e = cycle-belongs c r clock inputs lent (eqb-true _ 0 e)
    go false e = ap (λ (o : Cycled). belongs c o.run) (cycle-refused c r clock inputs lent (eqb-false _ 0 e)) ∙ h
