-- What is proved of specs/Held.antt.
use Prim.Native.Nat.{ℕ, ◌<◌}
use Rattle.std.proofs.Math.Bool.{Bool, cond}
use Rattle.std.specs.Prelude.{true, false, ◌&&◌, ◌||◌, not, List, ◌≡◌, refl, leb, eqb}
use Rattle.std.proofs.Math.Path.{sym, ap, ap₂}
use Rattle.std.proofs.Common.{◌∙◌, arith, leb-true, lt-ltb, le-ltb, eqb-true}
use Rattle.std.proofs.Math.Nat.{lt_of_lt_of_le}
use Rattle.std.proofs.Math.ListN.{get_or}
use Rattle.std.proofs.lemmas.Bool.{lt-leb}
use Rattle.sets.specs.Sets.{has, collect, union, minus}
use Rattle.sets.proofs.Loops.{and-true, and_no, and_yes, or-false, all_true, get_or-table}
use Rattle.sets.proofs.Members.{has-zero, has-collect}
use Rattle.sets.proofs.Below.{has-union, has-minus}
use Rattle.chart.specs.declared.chart.Chart.{Chart}
use Rattle.chart.proofs.held.Sound.{Sound, sound}
use Rattle.choice.specs.Choice.{none_taken, held}
use Rattle.choice.proofs.Laws.{reasons-at}
use Rattle.acting.specs.Acting.{kept_count, request, request_of, asked, acted}
use Rattle.acting.specs.declared.Request.{Request}
use Rattle.acting.specs.declared.Asked.{Asked}
use Rattle.run.specs.Run.{longest, longer, counter, timer}
use Rattle.run.specs.Apart.{counts_of}
use Rattle.run.specs.Belongs.{count_fits, names_fit, counters_fit, timers_fit}
use Rattle.run.specs.declared.run.ActionTimer.{ActionTimer}
use Rattle.run.specs.declared.run.Run.{Run}
use Rattle.run.proofs.belongs.Laws.{Own, own}
use Rattle.passes.specs.Time.{elapsed, grown_count, grown_time, grown_counts}
use Rattle.passes.specs.Choosing.{moved_to, entered_by, steps_of}
use Rattle.passes.specs.Moving.{good_at, bad_at, marks_of, signals_of}
use Rattle.cycle.specs.Cycling.{start_of, counts_at, times_at, cycled}
use Rattle.cycle.proofs.cycling.Laws.{cycle-passed}
use Rattle.cycle.proofs.bounds.Sound.{asked-same}
use Rattle.claims.proofs.Numbers.{cycle-code}
use Rattle.claims.specs.Runs.{Cycle, cycle, answer}
use Rattle.claims.proofs.Runs.{each_start}
use Rattle.claims.specs.Held.{standing, HeldCycle, OtherMark}

-- ---- laws

-- where nothing is taken, the same steps are active and kept
stays : (a k : ℕ) → k < 64 → has (moved_to a none_taken) k ≡ has a k
stays a k l = has-union (minus a 0) 0 k l ∙ rw (has-minus a 0 k l, has-zero k) (or-false _ ∙ sym (and_yes (has a k)))

none-entered : (a k : ℕ) → k < 64 → has (entered_by a none_taken) k ≡ false
none-entered a k l = has-collect (λ j. has 0 j && (not (has a j) || has 0 j)) 64 k l ∙ rw (has-zero k)

-- the steps that keep their counters then
abbrev kept_in : ℕ → ℕ
kept_in a = minus (moved_to a none_taken) (entered_by a none_taken)

kept-stays : (a k : ℕ) → k < 64 → has (kept_in a) k ≡ has a k
kept-stays a k l = has-minus (moved_to a none_taken) (entered_by a none_taken) k l ∙ rw (none-entered a k l) (sym (and_yes _) ∙ stays a k l)

-- a counter that fits stands where nothing is added to it
stands : (b kept : Bool) (n : ℕ) → kept ≡ b → (leb n longest && (b || eqb n 0)) ≡ true → cond kept (cond b (longer 0 n) 0) 0 ≡ n
stands true kept n e f = let l = leb-true n longest (and-true (leb n longest) true f).0 in rw e (omega (arith, l))
stands false kept n e f = rw e (sym (eqb-true n 0 (and-true (leb n longest) (eqb n 0) f).1))

-- and counts only where its step is active
counts_alone : (b : Bool) (n : ℕ) → (leb n longest && (b || eqb n 0)) ≡ true → cond b n 0 ≡ n
counts_alone true n f = refl
counts_alone false n f = sym (eqb-true n 0 (and-true (leb n longest) (eqb n 0) f).1)

module _ (c : Chart) (r : Run) (s : Sound c) (o : Own c r) where
  -- step k's counter, and that it fits
  abbrev count : ℕ → ℕ
  count k = (get_or r.counters k (counter 0)).0

  fits : (k : ℕ) → k < 64 → count_fits r.active k (count k) ≡ true
  fits k l = all_true (λ j. count_fits r.active j (count j)) 64 o.counters k l

  abbrev still : List ℕ
  still = grown_counts r.counters r.active 0

  -- what a cycle that takes nothing leaves of it
  count-stands : (k : ℕ) → k < 64 → kept_count (kept_in r.active) k (get_or still k 0) ≡ count k
  count-stands k l =
      rw (get_or-table (λ j. grown_count r.active 0 j (get_or r.counters j (counter 0))) 64 k 0 l)
      (stands (has r.active k) (has (kept_in r.active) k) (count k) (kept-stays r.active k l) (fits k l))

  -- the marks of cases where nothing was left
  unmarked : (mark signals i : ℕ) → i < c.cases → (p : ℕ → ℕ → ℕ → ℕ → ℕ → Bool) → ((a b d : ℕ) → p a b d 0 signals ≡ false)
      → has (union mark (collect (λ j. p (get_or c.casestep j 0) (get_or c.signal j 0) (get_or c.expected j 0) 0 signals) c.cases)) i ≡ has mark i
  unmarked mark signals i l p none =
      has-union mark _ i (lt_of_lt_of_le l s.limits.cases)
      ∙ rw (has-collect (λ j. p (get_or c.casestep j 0) (get_or c.signal j 0) (get_or c.expected j 0) 0 signals) c.cases i l, none (get_or c.casestep i 0) (get_or c.signal i 0) (get_or c.expected i 0))
      (or-false (has mark i))

  -- what blocks ask
  asked-still : (times : List ℕ)
      → asked c.blocks c.blockstep c.blockaction c.qualifier c.duration still times (steps_of r.active none_taken)
      ≡ asked c.blocks c.blockstep c.blockaction c.qualifier c.duration (counts_of r.counters) times (standing r)
  unfolding asked
  asked-still times =
      asked-same (request_of c.blockstep c.blockaction c.qualifier c.duration still times (steps_of r.active none_taken))
      (request_of c.blockstep c.blockaction c.qualifier c.duration (counts_of r.counters) times (standing r)) (λ b. get_or c.blockaction b 0) (λ b. get_or c.blockaction b 0) c.blocks
      (λ b m.
      let k = get_or c.blockstep b 0 in
      let l : k < 64 = lt_of_lt_of_le (s.blockstep b m) s.limits.steps in
      let asks : Bool → Bool → ℕ → Request = λ on entered n. request (get_or c.qualifier b 0) (get_or c.duration b 0) on entered (has 0 k) n (get_or times (get_or c.blockaction b 0) 0) in
      ap (λ (e : Bool). asks (has (moved_to r.active none_taken) k) e (kept_count (kept_in r.active) k (get_or still k 0))) (none-entered r.active k l ∙ sym (has-zero k))
      ∙ ap₂ (λ (on : Bool) (n : ℕ). asks on (has 0 k) n) (stays r.active k l)
      (count-stands k l ∙ sym (rw (get_or-table (λ j. (get_or r.counters j (counter 0)).0) 64 k 0 l) (counts_alone (has r.active k) (count k) (fits k l)))))
      (λ b m. refl)

  held-cycled : (x : Cycle) → held r.hold ≡ true → HeldCycle c r x (cycled c r x.clock x.inputs)
  unfolding marks_of
  held-cycled x h =
      let at = reasons-at r.hold c.edition c.sources c.targets c.on c.off c.wait (counts_at r x.clock) r.active (signals_of x.inputs r.activity) c.transitions in
      let few = s.limits.transitions in
      record {
        takes_none = rw h;
        why = λ t l. at t (lt_of_lt_of_le l few) ∙ rw (lt-ltb t c.transitions l, h);
        beyond = λ t g l. at t l ∙ rw (le-ltb t c.transitions g);
        active = λ k l. rw h (stays r.active k l);
        counters = λ k l. rw (h, get_or-table (λ j. counter (kept_count (kept_in r.active) j (get_or still j 0))) 64 k (counter 0) l) (ap counter (count-stands k l));
        timers = λ k l q.
            ap (λ (t : ActionTimer). t.0) (get_or-table (λ j. timer (kept_count (cycled c r x.clock x.inputs).run.latched j (get_or (times_at r x.clock) j 0))) 32 k (timer 0) l)
            ∙ ap (λ (b : Bool). cond b (get_or (times_at r x.clock) k 0) 0) q
            ∙ get_or-table (λ j. grown_time r.latched (elapsed r.clock x.clock) j (get_or r.timers j (timer 0))) 32 k 0 l;
        actions = rw h (ap (λ (y : Asked). acted y r.stored r.latched) (asked-still (times_at r x.clock)));
        good = λ i l. rw h (unmarked r.good (signals_of x.inputs r.activity) i l good_at (λ a b d. rw (has-zero a)));
        bad = λ i l. rw h (unmarked r.bad (signals_of x.inputs r.activity) i l bad_at (λ a b d. rw (has-zero a)));
        clock = refl;
        mark = refl;
      }

-- every accepted cycle under hold, whatever the chart, the run and the call
pub held-cycle : (c : Chart) (r : Run) (x : Cycle) → held r.hold ≡ true → (answer c r (cycle x)).code ≡ 0 → HeldCycle c r x (answer c r (cycle x))
held-cycle c r x h e =
    let q = sym (cycle-code c r x.clock x.inputs x.lent) ∙ e in
    let p = cycle-passed c r x.clock x.lent q in
    rw q (held-cycled c r (sound c p.chart) (own c r p.run) x h)

-- "12 covers the mark too, which must be 0 or 1"
pub other-mark : OtherMark
other-mark c r l =
    rw (lt-leb r.hold 1 l)
    (and_no (names_fit c.steps c.actions c.cases r.active r.activity r.stored r.latched r.good r.bad && counters_fit r.counters r.active && timers_fit r.timers r.latched))

-- a start is not held, accepted or refused
pub start-unheld : (c : Chart) (clock lent : ℕ) → (start_of c clock lent).run.hold ≡ 0
start-unheld c clock lent = each_start (λ o. o.run.hold ≡ 0) c clock lent (λ e. refl) (λ code z. refl)
