-- What is proved of specs/Shifts.antt.
use Prim.Native.Nat.{ℕ, zero, suc, ◌+◌, ◌≤◌, ◌<◌}
use Rattle.std.specs.Prelude.{Bool, true, false, cond, List, [], ◌∷◌, ◌++◌, ◌≡◌, ℤ, length, get_or, set, eqb}
use Rattle.std.proofs.Common.{⊎_elim, sym, ◌∙◌, eq-or-lt_of_le, le_of_suc-le-suc, arith, length-set, get_or-set_same, get_or-set_other}
use Rattle.std.proofs.Math.Path.{refl, ap}
use borrow.Author.Tests.{le-leb, lt-leb, eqb-true, eqb-false, eq-eqb, ne_eqb}
use Rattle.sets.specs.Loops.{turns}
use Rattle.sets.specs.Sets.{has}
use Rattle.sets.proofs.Loops.{else-zero}
use Rattle.fields.specs.Fields.{unless}
use Rattle.chart.specs.Held.{initial_at, chart_code}
use Rattle.chart.specs.declared.chart.Chart.{Chart}
use Rattle.chart.proofs.held.Each.{either, else-each}
use Rattle.chart.proofs.held.Sound.{fits}
use Rattle.run.specs.declared.run.Run.{Run}
use Rattle.cycle.specs.Cycling.{ready_code, start_of, cycle_on, outputs_after}
use Rattle.cycle.specs.Answer.{Cycled}
use Rattle.cycle.proofs.cycling.Laws.{passed as ready-passed}
use Rattle.cycle.proofs.cycling.Tested.{outputs-long}
use Rattle.cycle.specs.Calling.{Calls, called, onward, singly}
use Rattle.shift.specs.Shifting.{Done, done_of, shift_code, shift_of}
use Rattle.shift.proofs.shifting.Laws.{before-any, fit}
use Rattle.tally.specs.Tallying.{tally_of}
use Rattle.tally.specs.Weighing.{weight}
use Rattle.claims.specs.Answers.{one_of}
use Rattle.claims.proofs.Fair.{fair}
use Rattle.claims.proofs.Ledger.{ledger, ledger-at-least}
use Rattle.claims.proofs.Numbers.{ready-each, cycle-each, left_alone, rest-kept}
use Rattle.claims.specs.Runs.{Call, answer, after, history, one, arrivals, departures, begun}
use Rattle.claims.specs.Stored.{set_by, reset_by, set_since, last_set}
use Rattle.claims.proofs.Stored.{stored-since, stored_last}
use Rattle.claims.specs.Tally.{tallied}
use Rattle.claims.proofs.Tally.{tally-counts}
use Rattle.claims.specs.Weights.{Balanced, initial_weight}
use Rattle.claims.proofs.Weights.{never-rises, never-together}
use Rattle.claims.specs.Shifts.{shift_numbers, call_at, calls_of, Entry, shift, single, after_all, calls_in, ShiftAfter}
use Rattle.claims.specs.Shifts.{turned_away as turned_away-of, even as even-of, ShiftAnswer as ShiftAnswer-of, call as call-of, reached as reached-of, Made as Made-of, ShiftCalls as ShiftCalls-of}

-- the calls xs and then ys
after_both : (c : Chart) (r : Run) (xs ys : List Call) → after c r (xs ++ ys) ≡ after c (after c r xs) ys
unfolding after
after_both c r [] ys = refl
after_both c r (x ∷ xs) ys = after_both c (answer c r x).run xs ys

-- what holds of each number below n and of n holds of each below suc n
or-last : (P : ℕ → Type 0) (n : ℕ) → ((k : ℕ) → k < n → P k) → P n → (k : ℕ) → k < suc n → P k
or-last P n h p k l = ⊎_elim (λ e. rw e p) (h k) (eq-or-lt_of_le (le_of_suc-le-suc l))

module _ (c : Chart) (r : Run) (clocks inputs words : List ℕ) (out : List ℤ) where
  -- the words of specs/Shifts.antt, of this shift
  abbrev turned_away : ℕ → Done
  turned_away = turned_away-of c r clocks inputs words out

  abbrev even : Bool
  even = even-of c r clocks inputs words out

  abbrev ShiftAnswer : Done → Type 0
  ShiftAnswer = ShiftAnswer-of c r clocks inputs words out

  abbrev call : ℕ → Call
  call = call-of c r clocks inputs words out

  abbrev reached : ℕ → Run
  reached = reached-of c r clocks inputs words out

  abbrev Made : ℕ → Run → List ℕ → List ℤ → Type 0
  Made = Made-of c r clocks inputs words out

  abbrev ShiftCalls : ℕ → Done → Type 0
  ShiftCalls = ShiftCalls-of c r clocks inputs words out

  -- ---- laws

  -- the run after a call more
  one_more : (n : ℕ) → reached (suc n) ≡ (answer c (reached n) (call n)).run
  unfolding after calls_of
  one_more n = after_both c r (calls_of clocks inputs (length out) n) (call n ∷ [])

  none_made : Made 0 r words out
  unfolding after calls_of
  none_made = record {
    accepted = λ k l. absurd (omega arith);
    run = refl;
    each_word = λ k l. absurd (omega arith);
    behind = λ k l. refl;
    long = refl;
    untouched = λ e. refl;
    writes = λ z. absurd (z refl);
    no-others = refl;
    lent = refl;
  }

  -- call n, answered by o, after n accepted ones
  module _ (n : ℕ) (now : Run) (w : List ℕ) (z : List ℤ) (many : 32 ≤ length out) (more : n < length words) (m : Made n now w z) (o : Cycled) (e : o ≡ answer c now (call n)) where
    code : o.code ≡ (answer c now (call n)).code
    code = ap (λ (o : Cycled). o.code) e

    made_more : o.code ≡ 0 → Made (suc n) o.run (set w n o.run.activity) (outputs_after c o z)
    made_more h =
        let v = o.run.activity in
        let next : o.run ≡ reached (suc n) = ap (λ (o : Cycled). o.run) e ∙ rw m.run (sym (one_more n)) in
        record {
          accepted = or-last (λ k. (answer c (reached k) (call k)).code ≡ 0) n m.accepted (rw m.run at (sym code ∙ h));
          run = next;
          each_word = or-last (λ k. get_or (set w n v) k 0 ≡ (reached (suc k)).activity) n
              (λ k l. get_or-set_other w n k v 0 (λ q. omega arith) ∙ m.each_word k l)
              (get_or-set_same w n v 0 (omega (arith, m.long)) ∙ ap (λ (q : Run). q.activity) next);
          behind = λ k l. get_or-set_other w n k v 0 (λ q. omega arith) ∙ m.behind k (omega arith);
          long = length-set w n v ∙ m.long;
          untouched = λ q. absurd (omega arith);
          writes = λ q. rw (eq-eqb o.code 0 h, m.no-others);
          no-others = rest-kept c o z h ∙ m.no-others;
          lent = outputs-long c o z (omega (arith, m.lent)) ∙ m.lent;
        }

    one-call : ShiftCalls (suc n) (done_of (called n w (o, outputs_after c o z)))
    one-call = go (eqb o.code 0) refl
      where
        go : (b : Bool) → eqb o.code 0 ≡ b
            → ShiftCalls (suc n) (done_of (cond b
            (record { code = 0; accepted = suc n; taken = o.taken; run = o.run; activities = set w n o.run.activity; outputs = outputs_after c o z })
            (record { code = o.code; accepted = n; taken = o.taken; run = o.run; activities = w; outputs = outputs_after c o z })))
        go true h = record { few = omega arith; made = made_more (eqb-true _ 0 h); stops = λ l. absurd (omega arith); all = λ q. refl }
        go false h =
            let no = eqb-false o.code 0 h in
            let back : o.run ≡ now = ap (λ (o : Cycled). o.run) e ∙ (fair c now (call n)).back (λ q. no (code ∙ q)) in
            record { few = omega arith; made = rw (left_alone c o z no, back) m; stops = λ l. (no, rw back code); all = λ q. absurd (omega arith) }

  -- a call more, unless one before it was refused
  call-more : (n : ℕ) (d : Calls) → 32 ≤ length out → n < length words → ShiftCalls n (done_of d) → ShiftCalls (suc n) (done_of (onward c clocks inputs n d))
  call-more n d many more s = go (eqb d.code 0) refl
    where
      go : (b : Bool) → eqb d.code 0 ≡ b
          → ShiftCalls (suc n) (done_of (cond b (called n d.activities (cycle_on c d.run (get_or clocks n 0) (get_or inputs n 0) d.outputs)) d))
      go true h =
          let whole : d.accepted < n → ⊥ = λ l. (s.stops l).0 (eqb-true _ 0 h) in
          let e : d.accepted ≡ n = omega (arith, s.few, whole) in
          let given : ℕ → Cycled = λ lent. answer c d.run (call_at clocks inputs lent n) in
          one-call n d.run d.activities d.outputs many more (rw e at s.made) (given (length d.outputs)) (ap given s.made.lent)
      go false h =
          let short : d.accepted ≡ n → ⊥ = λ e. eqb-false d.code 0 h (s.all e) in
          let l : d.accepted < n = omega (arith, s.few, short) in
          record { few = omega arith; made = s.made; stops = λ _. s.stops l; all = λ e. absurd (omega arith) }

  -- "The result equals the calls made singly"
  pub shift-calls : (n : ℕ) → 32 ≤ length out → n ≤ length words → ShiftCalls n (done_of (singly c r clocks inputs words out n))
  unfolding singly turns
  shift-calls zero many more = record { few = omega arith; made = none_made; stops = λ l. absurd (omega arith); all = λ e. refl }
  shift-calls (suc n) many more = call-more n (singly c r clocks inputs words out n) many more (shift-calls n many (omega arith))

  -- ---- the whole shift

  abbrev done : Done
  done = shift_of c r clocks inputs words out

  -- the number that its tests give
  abbrev tests : ℕ
  tests = shift_code c r (length out) (length clocks) (length inputs) (length words)

  -- refused by its tests, or not
  away : (n : ℕ) → tests ≡ n → (n ≡ 0 → ⊥) → done ≡ turned_away n
  away n e z = sym (before-any c r clocks inputs words out n (sym e) z)

  let-in : tests ≡ 0 → done ≡ done_of (singly c r clocks inputs words out (length clocks))
  let-in e = rw e

  -- then the outputs are enough, and there is an activity word for each clock
  room : tests ≡ 0 → (32 ≤ length out) × (length clocks ≡ length words)
  room e =
      let a = else-zero (ready_code c r (length out)) (unless even 18) e in
      ((ready-passed c r (length out) a.0).enough, sym (fit (length clocks) (length inputs) (length words) (fits even 18 (λ z. omega arith) a.1)).1)

  pub shift-whole : tests ≡ 0 → ShiftCalls (length clocks) done
  shift-whole e = let q = room e in rw e (shift-calls (length clocks) q.0 (omega (arith, q.1)))

  -- what holds of the calls, and of a refusal before any, holds of the shift
  either_way : (P : Done → Type 0) → ((d : Done) → ShiftCalls (length clocks) d → P d) → P (turned_away tests) → P done
  either_way P f p = go (eqb tests 0) refl
    where
      go : (b : Bool) → eqb tests 0 ≡ b → P done
      go true e = f done (shift-whole (eqb-true _ 0 e))
      go false e = rw (away tests refl (eqb-false _ 0 e)) p

  -- a refused shift too is the calls that it accepted, none
  pub shift_made : Made done.0.accepted done.0.run done.1 done.2
  shift_made = either_way (λ d. Made d.0.accepted d.0.run d.1 d.2) (λ d s. s.made) none_made

  -- what holds of each number of the tests and of a cycle holds of the shift's
  pub shift-each : (P : ℕ → Type 0) → P 0 → P 4 → P 5 → P 6 → P 7 → P 9 → P 8 → P 15 → P 12 → P 18 → P 11 → P done.0.code
  shift-each P p0 p4 p5 p6 p7 p9 p8 p15 p12 p18 p11 =
      either_way (λ d. P d.0.code)
      (λ d s.
      let k = d.0.accepted in
      ⊎_elim (λ q. rw (s.all q) p0) (λ l. rw (s.stops l).1 (cycle-each P p0 p4 p5 p6 p7 p9 p8 p15 p12 p11 c d.0.run (get_or clocks k 0) (get_or inputs k 0) (length out))) (eq-or-lt_of_le s.few))
      (else-each P _ _ (ready-each P p0 p4 p5 p6 p7 p9 p8 p15 p12 c r (length out)) (either P even 0 18 p0 p18))

  pub shift-answers : ShiftAnswer done
  unfolding singly turns
  shift-answers = record {
    numbered = shift-each (λ n. one_of (0 ∷ shift_numbers) n ≡ true) refl refl refl refl refl refl refl refl refl refl refl;
    few-outputs = λ h. away 15 (rw (lt-leb 32 (length out) h)) (λ q. omega arith);
    bad-chart = λ h z. away (chart_code c) (simp (le-leb 32 (length out) h, ne_eqb (chart_code c) 0 z)) z;
    other-run = λ h e f. away 12 (rw (le-leb 32 (length out) h, e, f)) (λ q. omega arith);
    uneven = λ h e f g. away 18 (rw (le-leb 32 (length out) h, e, f, g)) (λ q. omega arith);
    passed = λ h e f g. let-in (rw (le-leb 32 (length out) h, e, f, g));
    none = λ h e f i j k. let-in (rw (le-leb 32 (length out) h, e, f, i, j, k)) ∙ ap (λ (n : ℕ). done_of (singly c r clocks inputs words out n)) i;
  }

-- ---- so what is claimed of any calls is claimed of shifts among them

-- the run that a shift returns is the run after the calls before it and those that it accepted
pub shift-after : ShiftAfter
shift-after c r xs clocks inputs words out = (shift_made c (after c r xs) clocks inputs words out).run ∙ sym (after_both c r xs _)

pub entries-after : (c : Chart) (r : Run) (es : List Entry) → after_all c r es ≡ after c r (calls_in c r es)
unfolding after after_all calls_in
entries-after c r [] = refl
entries-after c r (single x ∷ es) = entries-after c (answer c r x).run es
entries-after c r (shift clocks inputs words out ∷ es) =
    let d = (shift_of c r clocks inputs words out).0 in
    entries-after c d.run es
    ∙ ap (λ (q : Run). after c q (calls_in c d.run es)) (shift_made c r clocks inputs words out).run
    ∙ sym (after_both c r (calls_of clocks inputs (length out) d.accepted) (calls_in c d.run es))

-- so demand 3 and the tally hold with cycles, holds, releases and shifts in any order
module _ (c : Chart) (clock lent : ℕ) (e : (start_of c clock lent).code ≡ 0) (es : List Entry) where
  abbrev pub reached-run : Run
  reached-run = after_all c (begun c clock lent) es

  abbrev pub calls : List Call
  calls = calls_in c (begun c clock lent) es

  pub shift-tally : tally_of c reached-run ≡ tallied c (begun c clock lent) calls
  shift-tally = rw (entries-after c (begun c clock lent) es) (tally-counts c clock lent e calls)

  pub shift-ledger : c.edition ≡ 1 → (k : ℕ) → k < c.steps
      → one (initial_at c.initial k) + arrivals c k (history c (begun c clock lent) calls)
      ≡ departures c k (history c (begun c clock lent) calls) + one (has reached-run.active k)
  shift-ledger first k l = rw (entries-after c (begun c clock lent) es) (ledger c clock lent e first calls k l)

  pub shift-at-least : (k : ℕ) → k < c.steps
      → departures c k (history c (begun c clock lent) calls) + one (has reached-run.active k)
      ≤ one (initial_at c.initial k) + arrivals c k (history c (begun c clock lent) calls)
  shift-at-least k l = rw (entries-after c (begun c clock lent) es) (ledger-at-least c clock lent e calls k l)

  pub shift-never-rises : (w : ℕ → ℕ) → Balanced c w → weight w reached-run.active ≤ initial_weight c w
  shift-never-rises w b = rw (entries-after c (begun c clock lent) es) (never-rises c clock lent e w b calls)

  pub shift-apart : (w : ℕ → ℕ) → Balanced c w → (i j : ℕ) → i < c.steps → j < c.steps → (i ≡ j → ⊥) → initial_weight c w < w i + w j
      → has reached-run.active i ≡ true → has reached-run.active j ≡ true → ⊥
  shift-apart w b = rw (entries-after c (begun c clock lent) es) (never-together c clock lent e w b calls)

  -- and so does request (xi), in both its forms
  pub shift-stored : (a : ℕ) → a < c.actions
      → has reached-run.stored a ≡ set_since (set_by c (start_of c clock lent) calls a) (reset_by c (start_of c clock lent) calls a) (suc (length calls))
  shift-stored a l = rw (entries-after c (begun c clock lent) es) (stored-since c clock lent e calls a l)

  pub shift-stored-last : (a : ℕ) → a < c.actions
      → has reached-run.stored a ≡ last_set (set_by c (start_of c clock lent) calls a) (reset_by c (start_of c clock lent) calls a) (suc (length calls))
  shift-stored-last a l = rw (entries-after c (begun c clock lent) es) (stored_last c clock lent e calls a l)
