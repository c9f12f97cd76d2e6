-- Laws of a run taken apart, its words beside its counters and timers, that docs/landings/ix.md, docs/DECISIONS.md and docs/ARCHITECTURE.md name. The code changes a
-- run where it lies and needs them no more.
use Prim.Native.Nat.{ℕ, zero, suc, ◌%◌, ◌^◌, ◌≤◌, ◌<◌, min, max}
use mathlib.Core.List.{List, [], ◌∷◌}
use mathlib.Core.Bool.{Bool, true, false, ◌||◌, cond}
use mathlib.Core.Path.{◌≡◌, refl, sym, ap, ap₂, ◌∙◌}
use native.Mathlib.Omega.{arith}
use lib.IntN.{ℤ}
use lib.ListN.{length, get_or, set, take}
use lib.Seq.{take-length}
use lib.Dec.{leb, eqb}
use borrow.Author.Tests.{leb-true, eq-eqb, eqb-true, eqb-false, ne_eqb}
use Rattle.sets.specs.Loops.{or_else, turns, some as some_of}
use Rattle.sets.specs.Sets.{has, minus}
use Rattle.sets.proofs.Loops.{else-none, else-zero, length-table, get_or-table, is-table}
use Rattle.sets.proofs.Members.{has-mod}
use Rattle.fields.specs.Fields.{unless}
use Rattle.chart.specs.Held.{largest, initial_at, some_initial, steps_code}
use Rattle.chart.specs.declared.chart.Chart.{Chart}
use Rattle.chart.proofs.held.Laws.{largest-code}
use Rattle.acting.specs.Acting.{kept_count}
use Rattle.run.specs.Run.{counter, timer, longer_counter, longer_timer}
use Rattle.run.specs.Apart.{run_of, counters_of, timers_of}
use Rattle.run.specs.Answer.{Words}
use Rattle.run.specs.declared.run.Run.{Run}
use Rattle.run.specs.declared.run.StepCounter.{StepCounter}
use Rattle.run.specs.declared.run.ActionTimer.{ActionTimer}
use Rattle.run.proofs.apart.Laws.{put-together}
use Rattle.passes.specs.Explaining.{kept_if}
use Rattle.passes.specs.Time.{grown_counts, grown_times}
use Rattle.passes.specs.Moving.{settled_counters, settled_timers, cleared}
use Rattle.cycle.specs.Cycling.{refused, ready_code, indexed_code, cycle_code, cycled, cycle_of, outputs_after, cycle_on_by, why_in}
use Rattle.cycle.specs.Calling.{Calls, no_calls, onward, singly, calls_on, calls_by, InParts, in_parts}
use Rattle.cycle.specs.Answer.{Cycled}
use Rattle.cycle.proofs.cycling.Laws.{stops}
use Rattle.cycle.proofs.calling.Laws.{made_of, none-called, once_by}
use Rattle.cycle.proofs.stepping.Laws.{cleared_at}
use Rattle.shift.specs.Shifting.{Done, answer_of, done_of, lists_fit, lists_code, clocks_taken, shift_of, shift_by}
use Rattle.shift.proofs.shifting.Laws.{fit, before-any}

-- ---- a run of 64 counters and 32 timers keeps them, and so is what its parts make

abbrev pub Long : Run → Type 0
Long r = (length r.counters ≡ 64) × (length r.timers ≡ 32)

pub parts-long : (w : Words) (counts times : List ℕ) → Long (run_of w counts times)
parts-long w counts times = (length-table _ 64, length-table _ 32)

cycle-long : (c : Chart) (r : Run) (clock inputs lent : ℕ) → Long r → Long (cycle_of c r clock inputs lent).run
cycle-long c r clock inputs lent h = go (eqb (cycle_code c r clock lent) 0)
  where
    go : (b : Bool) → Long (cond b (cycled c r clock inputs) (refused (cycle_code c r clock lent) r)).run
    go true = (length-table _ 64, length-table _ 32)
    go false = h

module _ (c : Chart) (r : Run) (clocks inputs acts : List ℕ) (out : List ℤ) (h : Long r) where
  more-long : (k : ℕ) (d : Calls) → Long d.run → Long (onward c clocks inputs k d).run
  more-long k d l = go (eqb d.code 0) (eqb o.code 0)
    where
      o : Cycled
      o = cycle_of c d.run (get_or clocks k 0) (get_or inputs k 0) (length d.outputs)

      left : List ℤ
      left = outputs_after c o d.outputs

      go : (b e : Bool) → Long (cond b (cond e (made_of 0 (suc k) o.taken o.run (set d.activities k o.run.activity) left) (made_of o.code k o.taken o.run d.activities left)) d).run
      go true true = cycle-long c d.run (get_or clocks k 0) (get_or inputs k 0) (length d.outputs) l
      go true false = cycle-long c d.run (get_or clocks k 0) (get_or inputs k 0) (length d.outputs) l
      go false e = l

  calls-long : (n : ℕ) → Long (singly c r clocks inputs acts out n).run
  unfolding singly turns
  calls-long zero = h
  calls-long (suc n) = more-long n (turns (onward c clocks inputs) (no_calls 0 r acts out) n) (calls-long n)

  on-long : Long (calls_on c r clocks inputs acts out).run
  on-long = go (eqb (ready_code c r (length out)) 0)
    where
      n : ℕ
      n = min (min (length clocks) (length inputs)) (length acts)

      go : (b : Bool) → Long (cond b (singly c r clocks inputs acts out n) (no_calls (ready_code c r (length out)) r acts out)).run
      go true = calls-long n
      go false = h

  by-long : (index : List ℕ) → Long (calls_by c index r clocks inputs acts out).run
  by-long index = go (eqb (indexed_code c index (length out)) 0)
    where
      go : (b : Bool) → Long (cond b (calls_on c r clocks inputs acts out) (no_calls (indexed_code c index (length out)) r acts out)).run
      go true = on-long
      go false = h

  -- the run that the parts make
  pub put_back : (index : List ℕ) (g : InParts) (next : Run) → g ≡ in_parts (calls_by c index r clocks inputs acts out) → next ≡ run_of g.0.words g.1 g.2
      → next ≡ (calls_by c index r clocks inputs acts out).run
  put_back index g next e f =
      let d = calls_by c index r clocks inputs acts out in
      f ∙ ap (λ (p : InParts). run_of p.0.words p.1 p.2) e ∙ sym (put-together d.run _ _ _ refl (refl, (by-long index).0) (refl, (by-long index).1))

pub one-cycle : (c : Chart) (index : List ℕ) (r : Run) (clock inputs : ℕ) (out : List ℤ) (w : Words) (counts times acts reasons : List ℕ) (g : InParts) (next : Run)
    → r ≡ run_of w counts times → length acts ≡ 1 → reasons ≡ kept_if g.0.code (why_in c (run_of w counts times) clock inputs)
    → g ≡ in_parts (calls_by c index (run_of w counts times) (clock ∷ []) (inputs ∷ []) acts out) → next ≡ run_of g.0.words g.1 g.2
    → ◌≡◌ {A = Cycled × List ℤ} (record { code = g.0.code; taken = g.0.taken; reasons = reasons; run = next }, g.4) (cycle_on_by c index r clock inputs out)
one-cycle c index r clock inputs out w counts times acts reasons g next e h k f n =
    let run = run_of w counts times in
    let why = why_in c run clock inputs in
    ap {B = Cycled × List ℤ} (λ (l : List ℕ). (record { code = g.0.code; taken = g.0.taken; reasons = l; run = next }, g.4)) k
    ∙ ap₂ {C = Cycled × List ℤ} (λ (p : InParts) (x : Run). (record { code = p.0.code; taken = p.0.taken; reasons = kept_if p.0.code why; run = x }, p.4)) f (put_back c run (clock ∷ []) (inputs ∷ []) acts out (parts-long w counts times) index g next f n)
    ∙ once_by c index run clock inputs acts out h
    ∙ ap (λ (x : Run). cycle_on_by c index x clock inputs out) (sym e)

-- ---- a shift: the calls that are made, and then 18

module _ (c : Chart) (r : Run) (clocks inputs words : List ℕ) (out : List ℤ) where
  -- lists of one length: the calls, as many as there are clocks
  pub all_made : lists_fit (length clocks) (length inputs) (length words) ≡ true → done_of (calls_on c r clocks inputs words out) ≡ shift_of c r clocks inputs words out
  all_made f = go (eqb (ready_code c r (length out)) 0) refl
    where
      n : ℕ
      n = min (min (length clocks) (length inputs)) (length words)

      every : n ≡ length clocks
      every = let l = fit (length clocks) (length inputs) (length words) f in omega (arith, l.0, l.1)

      go : (b : Bool) → eqb (ready_code c r (length out)) 0 ≡ b
          → done_of (cond b (singly c r clocks inputs words out n) (no_calls (ready_code c r (length out)) r words out)) ≡ shift_of c r clocks inputs words out
      go true e = let z : ready_code c r (length out) ≡ 0 = eqb-true _ 0 e in rw (z, f, every)
      go false e = before-any c r clocks inputs words out (ready_code c r (length out)) (stops _ _ (eqb-false _ 0 e)) (eqb-false _ 0 e)

  -- ---- the calls that are made, and then 18

  abbrev pub uneven : ℕ
  uneven = lists_code (length clocks) (length inputs) (length words)

  -- with these clocks, and this number of the lists
  abbrev pub told : ℕ → Calls → Done
  told n d = (answer_of (or_else d.code n) d.accepted d.run, d.activities, d.outputs)

  abbrev pub some : ℕ → List ℕ
  some n = take (clocks_taken n (length clocks)) clocks

  -- no clock: no call, and the number of the tests before any
  none_made : calls_on c r (take 0 clocks) inputs words out ≡ no_calls (ready_code c r (length out)) r words out
  none_made = go (eqb (ready_code c r (length out)) 0) refl
    where
      go : (b : Bool) → eqb (ready_code c r (length out)) 0 ≡ b
          → cond b (singly c r (take 0 clocks) inputs words out (min (min 0 (length inputs)) (length words))) (no_calls (ready_code c r (length out)) r words out) ≡ no_calls (ready_code c r (length out)) r words out
      go true e =
          let none : min (min 0 (length inputs)) (length words) ≡ 0 = omega arith in
          let z : ready_code c r (length out) ≡ 0 = eqb-true _ 0 e in
          rw (none, z) (sym (none-called c r (take 0 clocks) inputs words out))
      go false e = refl

  pub all_told : told uneven (calls_on c r (some uneven) inputs words out) ≡ shift_of c r clocks inputs words out
  all_told = go (lists_fit (length clocks) (length inputs) (length words)) refl
    where
      go : (b : Bool) → lists_fit (length clocks) (length inputs) (length words) ≡ b → told uneven (calls_on c r (some uneven) inputs words out) ≡ shift_of c r clocks inputs words out
      go true f =
          let u : uneven ≡ 0 = ap (λ (b : Bool). unless b 18) f in
          ap (λ (n : ℕ). told n (calls_on c r (some n) inputs words out)) u
          ∙ ap (λ (l : List ℕ). told 0 (calls_on c r l inputs words out)) (take-length clocks)
          ∙ ap (λ (n : ℕ). let d = calls_on c r clocks inputs words out in (answer_of n d.accepted d.run, d.activities, d.outputs)) (else-none (calls_on c r clocks inputs words out).code)
          ∙ all_made f
      go false f =
          let u : uneven ≡ 18 = ap (λ (b : Bool). unless b 18) f in
          let n = ready_code c r (length out) in
          ap (λ (n : ℕ). told n (calls_on c r (some n) inputs words out)) u
          ∙ ap (told 18) none_made
          ∙ before-any c r clocks inputs words out (or_else n 18) (ap (or_else n) (sym u)) (λ z. let last = (else-zero n 18 z).1 in omega arith)

-- ---- with an index, or without (document 02, request ix)

module _ (c : Chart) (index : List ℕ) (r : Run) (clocks inputs words : List ℕ) (out : List ℤ) where
  abbrev pub lists : ℕ
  lists = uneven c r clocks inputs words out

  abbrev pub made : Run → List ℕ → Calls
  made run taken = calls_by c index run taken inputs words out

  pub all-told-by : told c r clocks inputs words out lists (made r (some c r clocks inputs words out lists)) ≡ shift_by c index r clocks inputs words out
  all-told-by = go (eqb (indexed_code c index (length out)) 0) refl
    where
      n : ℕ
      n = indexed_code c index (length out)

      go : (b : Bool) → eqb n 0 ≡ b
          → told c r clocks inputs words out lists (cond b (calls_on c r (some c r clocks inputs words out lists) inputs words out) (no_calls n r words out)) ≡ cond b (shift_of c r clocks inputs words out) (answer_of n 0 r, words, out)
      go true q = all_told c r clocks inputs words out
      go false q = ap {B = Done} (λ (m : ℕ). (answer_of m 0 r, words, out)) (sym (stops n lists (eqb-false n 0 q)))

  -- the same of the numbers that the two tests gave
  module _ (run : Run) (u n : ℕ) (g : InParts) (e : u ≡ lists) (f : n ≡ clocks_taken u (length clocks)) (h : g ≡ in_parts (made run (take n clocks))) where
    pub all-taken : g ≡ in_parts (made run (some c r clocks inputs words out lists))
    all-taken = h ∙ ap (λ (m : ℕ). in_parts (made run (take m clocks))) (f ∙ ap (λ (m : ℕ). clocks_taken m (length clocks)) e)

    pub code-told : (code : ℕ) → code ≡ or_else g.0.code u → code ≡ or_else g.0.code lists
    code-told code q = q ∙ ap (or_else g.0.code) e

  -- with the run put together
  pub all-called : (w : Words) (counts times : List ℕ) (code : ℕ) (g : InParts) (next : Run) → r ≡ run_of w counts times
      → g ≡ in_parts (made (run_of w counts times) (some c r clocks inputs words out lists)) → code ≡ or_else g.0.code lists → next ≡ run_of g.0.words g.1 g.2
      → ◌≡◌ {A = Done} (answer_of code g.0.accepted next, g.3, g.4) (shift_by c index r clocks inputs words out)
  all-called w counts times code g next e h p q =
      let run = run_of w counts times in
      ap {B = Done} (λ (n : ℕ). (answer_of n g.0.accepted next, g.3, g.4)) p
      ∙ ap₂ {C = Done} (λ (p : InParts) (x : Run). (answer_of (or_else p.0.code lists) p.0.accepted x, p.3, p.4)) h (put_back c run (some c r clocks inputs words out lists) inputs words out (parts-long w counts times) index g next h q)
      ∙ ap (λ (x : Run). told c r clocks inputs words out lists (made x (some c r clocks inputs words out lists))) (sym e)
      ∙ all-told-by

-- ---- counters and timers that have grown and are cleared where they do not run on are what runs on, of a run that passed no test too

pub counts-now : (active kept gone e : ℕ) (old : List StepCounter) (counts now : List ℕ) → counts ≡ grown_counts old active e → gone ≡ minus active kept → now ≡ cleared counts gone
    → (k : ℕ) → k < 64 → get_or now k 0 ≡ kept_count kept k (get_or counts k 0)
counts-now active kept gone e old counts now p q r k m =
    rw (r, p, q) (cleared_at 64 active kept (minus active kept) (λ j. (longer_counter e (get_or old j (counter 0))).0) (omega arith) (λ j l. refl) k m)

pub times-now : (latched kept gone e : ℕ) (old : List ActionTimer) (times now : List ℕ) → times ≡ grown_times old latched e → gone ≡ minus latched kept → now ≡ cleared times (gone % 2 ^ 32)
    → (k : ℕ) → k < 32 → get_or now k 0 ≡ kept_count kept k (get_or times k 0)
times-now latched kept gone e old times now p q r k m =
    rw (r, p, q) (cleared_at 32 latched kept (minus latched kept % 2 ^ 32) (λ j. (longer_timer e (get_or old j (timer 0))).0) (omega arith) (λ j l. has-mod 32 (minus latched kept) j l) k m)

pub settled-counts : (kept : ℕ) (now l : List ℕ) → ((k : ℕ) → k < 64 → get_or now k 0 ≡ kept_count kept k (get_or l k 0)) → counters_of now ≡ settled_counters l kept
settled-counts kept now l h = is-table _ 64 (counters_of now) (counter 0) (length-table _ 64) (λ k m. get_or-table (λ j. counter (get_or now j 0)) 64 k (counter 0) m ∙ ap counter (h k m))

pub settled-times : (kept : ℕ) (now l : List ℕ) → ((k : ℕ) → k < 32 → get_or now k 0 ≡ kept_count kept k (get_or l k 0)) → timers_of now ≡ settled_timers l kept
settled-times kept now l h = is-table _ 32 (timers_of now) (timer 0) (length-table _ 32) (λ k m. get_or-table (λ j. timer (get_or now j 0)) 32 k (timer 0) m ∙ ap timer (h k m))

-- ---- the held test

largest-one : (n : ℕ) (table : List ℕ) → largest n table ≤ 1 → eqb (largest n table) 1 ≡ some_of (λ i. eqb (get_or table i 0) 1) n
unfolding largest some_of
largest-one zero table h = refl
largest-one (suc n) table h =
    go (largest n table) (get_or table n 0) h (eqb (largest n table) 1) (eqb (get_or table n 0) 1) refl refl
    ∙ ap (λ (x : Bool). x || eqb (get_or table n 0) 1) (largest-one n table (omega arith))
  where
    go : (a b : ℕ) → max a b ≤ 1 → (x y : Bool) → eqb a 1 ≡ x → eqb b 1 ≡ y → eqb (max a b) 1 ≡ x || y
    go a b l true y e f = let q = eqb-true a 1 e in eq-eqb (max a b) 1 (omega arith)
    go a b l false true e f = let q = eqb-true b 1 f in eq-eqb (max a b) 1 (omega arith)
    go a b l false false e f = let x = eqb-false a 1 e in let y = eqb-false b 1 f in ne_eqb (max a b) 1 (λ m. omega arith)

-- the largest mark tells whether all fit, and then whether one is 1; a, t, b, c and d are the numbers between the two tests, z the one behind
pub marks-code : (n : ℕ) (initial : List ℕ) (a t b c d z : ℕ)
    → or_else (unless (leb (largest n initial) 1) 5) (or_else a (or_else t (or_else b (or_else c (or_else d (or_else (unless (eqb (largest n initial) 1) 9) z))))))
    ≡ or_else (steps_code n initial) (or_else a (or_else t (or_else b (or_else c (or_else d (or_else (unless (some_initial n initial) 9) z))))))
unfolding steps_code some_initial
marks-code n initial a t b c d z = rw (← largest-code 1 n initial) (go (leb (largest n initial) 1) refl)
  where
    rest : Bool → ℕ
    rest one = or_else a (or_else t (or_else b (or_else c (or_else d (or_else (unless one 9) z)))))

    go : (fit : Bool) → leb (largest n initial) 1 ≡ fit → or_else (unless fit 5) (rest (eqb (largest n initial) 1)) ≡ or_else (unless fit 5) (rest (some_of (initial_at initial) n))
    go true e = ap rest (largest-one n initial (leb-true _ 1 e))
    go false e = refl
