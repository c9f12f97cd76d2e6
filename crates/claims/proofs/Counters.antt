-- What is proved of specs/Counters.antt.
use Rattle.std.specs.Prelude.{ℕ, ◌≤◌, ◌<◌, min, Bool, true, false, ◌&&◌, ◌||◌, not, cond, ◌⊎◌, ◌≡◌, refl, get_or, replicate}
use mathlib.Core.List.{List, [], ◌∷◌}
use Rattle.std.proofs.Common.{inl, inr, ap, ◌∙◌, arith}
use Rattle.std.proofs.lemmas.List.{get_or-replicate}
use Rattle.std.proofs.lemmas.Bool.{not-true}
use Rattle.sets.specs.Sets.{has}
use Rattle.sets.proofs.Loops.{and-true, or-true, neither, get_or-table}
use Rattle.sets.proofs.Members.{has-zero}
use Rattle.sets.proofs.Below.{either}
use Rattle.chart.specs.declared.chart.Chart.{Chart}
use Rattle.choice.specs.Choice.{held}
use Rattle.acting.specs.Acting.{kept_count}
use Rattle.run.specs.Run.{longest, longer, counter}
use Rattle.run.specs.declared.run.StepCounter.{StepCounter}
use Rattle.run.specs.declared.run.Run.{Run}
use Rattle.passes.specs.Time.{elapsed, step_time, grown_count}
use Rattle.cycle.specs.Cycling.{refused, cycled}
use Rattle.cycle.specs.Answer.{Cycled}
use Rattle.key.specs.Turning.{mark_of, marked, turned_as}
use Rattle.claims.specs.Editions.{target_in, Stepped}
use Rattle.claims.proofs.Editions.{stepped}
use Rattle.claims.proofs.Fair.{begins}
use Rattle.claims.proofs.Ledger.{initial-has}
use Rattle.claims.specs.Runs.{Cycle, Call, cycle, keyed, answer, after, begun}
use Rattle.claims.proofs.Runs.{each-answer, each_start}
use Rattle.claims.specs.Tally.{left_in, ever}
use Rattle.claims.specs.Counters.{counter_in, time_in, time_over, left_over, entered_in, CounterSince, CounterFromStart}

-- ---- laws

-- no more than the elapsed time counts
at_most : (b : Bool) (time : ℕ) → cond b 0 time ≤ time
at_most true time = omega arith
at_most false time = omega arith

-- and none where the clock is as it was
same-clock : (r : Run) (o : Cycled) → o.run.clock ≡ r.clock → time_in r o ≡ 0
same-clock r o e =
    let time = elapsed r.clock o.run.clock in
    let none : time ≡ 0 = rw e (omega arith) in
    omega (arith, none, at_most (held r.hold) time)

-- a step that is active and that the call does not leave stays so, and its counter gets the call's time
record Counts (k : ℕ) (r : Run) (o : Cycled) : Type 0 where
  stays : has o.run.active k ≡ true
  counts : counter_in o.run k ≡ longer (time_in r o) (counter_in r k)

module _ (c : Chart) (k : ℕ) (l : k < 64) where
  -- where the clock, the active steps and the counters are as they were
  counts_same : (r : Run) (o : Cycled) → o.run.clock ≡ r.clock → o.run.active ≡ r.active → o.run.counters ≡ r.counters → has r.active k ≡ true → counter_in r k ≤ longest → Counts k r o
  counts_same r o t a n h m = record { stays = rw a h; counts = rw n (omega (arith, m, same-clock r o t)) }

  counts-cycled : (r : Run) (x : Cycle) (o : Cycled) → Stepped c r x o → o.run.clock ≡ x.clock → has r.active k ≡ true → left_in c o k ≡ false → Counts k r o
  counts-cycled r x o s clock h f =
      let time = step_time r.hold (elapsed r.clock x.clock) in
      record {
        stays = s.active k l ∙ rw (h, f);
        counts = ap (λ (n : StepCounter). n.0) (s.runs_on k l h f) ∙ get_or-table (λ j. grown_count r.active time j (get_or r.counters j (counter 0))) 64 k 0 l ∙ rw (h, clock);
      }

  call-counts : (r : Run) (x : Call) → has r.active k ≡ true → counter_in r k ≤ longest → left_in c (answer c r x) k ≡ false → Counts k r (answer c r x)
  call-counts r x h m =
      each-answer (λ x o. left_in c o k ≡ false → Counts k r o) c r
      (λ x e f. counts-cycled r x (cycled c r x.clock x.inputs) (rw e at (stepped c r x (rw e))) refl h f)
      (λ held f. counts_same r (keyed (turned_as 0 (marked (mark_of held) r))) refl refl refl h m) (λ x code z f. counts_same r (refused code r) refl refl refl h m) x

  -- what a step that is active has counted over calls that do not leave it
  counts-over : (r : Run) (xs : List Call) → has r.active k ≡ true → left_over c k r xs ≡ false → counter_in r k ≤ longest
      → counter_in (after c r xs) k ≡ longer (time_over c r xs) (counter_in r k)
  unfolding after ever time_over
  counts-over r [] h f m = omega (arith, m)
  counts-over r (x ∷ xs) h f m =
      let g = neither (left_in c (answer c r x) k) _ f in
      let i = call-counts r x h m g.0 in
      let least : counter_in (answer c r x).run k ≤ longest = rw i.counts (omega arith) in
      counts-over (answer c r x).run xs i.stays g.1 least ∙ rw i.counts (omega arith)

  -- from 0 on
  from_zero : (r : Run) (xs : List Call) → has r.active k ≡ true → counter_in r k ≡ 0 → left_over c k r xs ≡ false → counter_in (after c r xs) k ≡ min (time_over c r xs) longest
  from_zero r xs h z f = counts-over r xs h f (omega (arith, z)) ∙ rw z (omega arith)

  -- a cycle that enters it leaves it active with counter 0
  enters : (r : Run) (x : Cycle) (o : Cycled) → Stepped c r x o → entered_in c r o k ≡ true → (has o.run.active k ≡ true) × (counter_in o.run k ≡ 0)
  enters r x o s h =
      let g = and-true (target_in c o k) (not (has r.active k) || left_in c o k) h in
      let zeroed : (has r.active k ≡ false) ⊎ (left_in c o k ≡ true) → counter_in o.run k ≡ 0 = λ w. ap (λ (n : StepCounter). n.0) (s.entered k l g.0 w) in
      (s.active k l ∙ rw g.0 (or-true (has r.active k && not (left_in c o k))), either (not (has r.active k)) (left_in c o k) g.1 (λ e. zeroed (inl (not-true _ e))) (λ e. zeroed (inr e)))

-- a start has every counter 0
start-counters : (c : Chart) (clock lent k : ℕ) → k < 64 → counter_in (begun c clock lent) k ≡ 0
start-counters c clock lent k l =
    each_start (λ o. counter_in o.run k ≡ 0) c clock lent
    (λ e. ap (λ (n : StepCounter). n.0) (get_or-table (λ j. counter (kept_count 0 j (get_or (replicate 64 0) j 0))) 64 k (counter 0) l) ∙ ap (λ (b : Bool). cond b (get_or (replicate 64 0) k 0) 0) (has-zero k))
    (λ code z. ap (λ (n : StepCounter). n.0) (get_or-replicate 64 k (counter 0) (counter 0) l))

-- ---- the theorems

-- a step that an accepted cycle entered, after any calls since then that did not leave it: its counter is the time that they gave
pub counter-since : CounterSince
unfolding after
counter-since c r x xs k l e h f = let i = enters c k l r x (answer c r (cycle x)) (stepped c r x e) h in from_zero c k l (answer c r (cycle x)).run xs i.0 i.1 f

-- and an initial step, after any calls from the start
pub counter-from-start : CounterFromStart
counter-from-start c clock lent e xs k l h f =
    let b = begins c clock lent e in
    let m : k < 64 = omega (arith, b.few, l) in
    let active : has (begun c clock lent).active k ≡ true = ap (λ (s : ℕ). has s k) b.initial ∙ initial-has c.steps c.initial k l ∙ h in
    from_zero c k m (begun c clock lent) xs active (start-counters c clock lent k m) f
