-- One call more, and what is there once one was refused.
use Prim.Native.Nat.{ℕ, suc, ◌+◌, ◌^◌, ◌≤◌, ◌<◌, min}
use mathlib.Core.List.{List, [], ◌∷◌}
use mathlib.Core.Bool.{Bool, true, false, ◌||◌, cond}
use mathlib.Core.Path.{◌≡◌, refl, sym, ap, ap₂, ◌∙◌}
use native.Mathlib.Omega.{arith}
use lib.IntN.{ℤ}
use Rattle.std.proofs.Common.{Result, Ok, Err}
use Rattle.std.specs.Result.{IsErrAnd}
use lib.ListN.{length, get_or, set, get_or-replicate}
use lib.Dec.{leb, ltb, eqb}
use borrow.Author.Tests.{eq-eqb, ne_eqb, eqb-true, eqb-false}
use Rattle.sets.specs.Loops.{or_else, turns, all}
use Rattle.sets.proofs.Loops.{else-none, else-zero, turns-start, turns_more, turns-still}
use Rattle.fields.specs.Fields.{unless}
use Rattle.refusals.specs.declared.Refusal.{Refusal}
use Rattle.refusals.specs.Refusals.{number}
use Rattle.refusals.proofs.Laws.{number-some}
use Rattle.chart.specs.Held.{chart_code}
use Rattle.chart.specs.declared.chart.Chart.{Chart}
use Rattle.chart.proofs.held.Sound.{fits, sound}
use Rattle.index.specs.Consulting.{is_index, index_after, consultable}
use Rattle.index.proofs.consulting.Laws.{is-consultable}
use Rattle.run.specs.Belongs.{belongs, own_after, own_code}
use Rattle.run.specs.declared.run.Run.{Run}
use Rattle.choice.proofs.Laws.{reasons-most}
use Rattle.passes.specs.Moving.{signals_of}
use Rattle.cycle.specs.Cycling.{refused, counts_at, ready_code, indexed_code, ready_by, cycle_code, cycled, cycle_of, cycle_by, outputs_after, cycle_on, cycle_on_by, why_in}
use Rattle.passes.specs.Explaining.{kept_if, no_reasons}
use Rattle.cycle.specs.Calling.{Calls, no_calls, called, onward, singly, calls_on, calls_by, calls_as}
use Rattle.cycle.specs.declared.calling.Went.{Went}
use Rattle.cycle.specs.declared.calling.Stopped.{Stopped}
use Rattle.cycle.specs.declared.cycling.Cycle.{Cycle}
use Rattle.cycle.specs.Answer.{Cycled, cycled_as}
use Rattle.cycle.proofs.cycling.Laws.{stops, goes_on, refused-by, turned-away, apart, passed}
use Rattle.cycle.proofs.cycling.Tested.{ready-kept, outputs-long}

-- calls with this number, so many accepted
abbrev pub made_of : ℕ → ℕ → ℕ → Run → List ℕ → List ℤ → Calls
made_of code k taken run acts out = record { code = code; accepted = k; taken = taken; run = run; activities = acts; outputs = out }

module _ (c : Chart) (first : Run) (clocks inputs words : List ℕ) (out : List ℤ) where
  abbrev pub after : ℕ → Calls
  after k = singly c first clocks inputs words out k

  pub none-called : made_of 0 0 0 first words out ≡ after 0
  unfolding singly
  none-called = turns-start (onward c clocks inputs) (no_calls 0 first words out)

  -- call k on what k accepted calls left: o is its answer
  module _ (k taken : ℕ) (run : Run) (acts : List ℕ) (lent left : List ℤ) (o : Cycled) (e : made_of 0 k taken run acts lent ≡ after k)
      (single : ◌≡◌ {A = Cycled × List ℤ} (o, left) (cycle_on c run (get_or clocks k 0) (get_or inputs k 0) lent)) where
    one_more : called k acts (o, left) ≡ after (k + 1)
    unfolding singly
    one_more = turns_more (onward c clocks inputs) (no_calls 0 first words out) k (made_of 0 k taken run acts lent) (called k acts (o, left)) e (ap (called k acts) single)

    -- accepted, of a chart and a run that passed their tests: they pass them again
    pub one-accepted : ready_code c run (length lent) ≡ 0 → o.code ≡ 0
        → (made_of 0 (k + 1) o.taken o.run (set acts k o.run.activity) left ≡ after (k + 1)) × (ready_code c o.run (length left) ≡ 0) × (length left ≡ length lent)
    one-accepted ready h =
        let same : o ≡ cycle_of c run (get_or clocks k 0) (get_or inputs k 0) (length lent) = ap (λ (p : Cycled × List ℤ). p.0) single in
        let long : length left ≡ length lent = ap (λ (p : Cycled × List ℤ). length p.1) single ∙ outputs-long c (cycle_of c run (get_or clocks k 0) (get_or inputs k 0) (length lent)) lent (passed c run (length lent) ready).enough in
        let next : k + 1 ≡ suc k = omega arith in
        let q : made_of 0 (k + 1) o.taken o.run (set acts k o.run.activity) left ≡ called k acts (o, left) = rw (eq-eqb o.code 0 h, next) in
        let kept = ready-kept c run (get_or clocks k 0) (get_or inputs k 0) (length lent) ready (sym (ap (λ (p : Cycled). p.code) same) ∙ h) in
        (q ∙ one_more, ap (λ (m : ℕ). ready_code c o.run m) long ∙ ap (λ (p : Cycled). ready_code c p.run (length lent)) same ∙ kept, long)

    -- once one was refused, none of the others is made
    pub one-refused : (o.code ≡ 0 → ⊥) → (n : ℕ) → k < n → made_of o.code k o.taken o.run acts left ≡ after n
    unfolding singly
    one-refused z n l =
        let q : made_of o.code k o.taken o.run acts left ≡ called k acts (o, left) = rw (ne_eqb o.code 0 z) in
        turns-still (onward c clocks inputs) (no_calls 0 first words out) (made_of o.code k o.taken o.run acts left) (k + 1) n (q ∙ one_more) (λ j. rw (ne_eqb o.code 0 z)) (omega arith)

  -- ---- the whole, by the tests before any call

  pub not-ready : (n : ℕ) → n ≡ ready_code c first (length out) → (n ≡ 0 → ⊥) → made_of n 0 0 first words out ≡ calls_on c first clocks inputs words out
  not-ready n e z = rw (← e, ne_eqb n 0 z)

  pub all_made : (d : Calls) (n : ℕ) → ready_code c first (length out) ≡ 0 → n ≡ min (min (length clocks) (length inputs)) (length words) → d ≡ after n → d ≡ calls_on c first clocks inputs words out
  all_made d n e h q = q ∙ rw (e, h)

-- ---- with an index, or without (document 02, request ix)

-- four numbers in their order, by the first three
by_three : (a h x o : ℕ) → or_else a (or_else (or_else h x) o) ≡ cond (eqb (or_else a (or_else h x)) 0) (or_else a (or_else h o)) (or_else a (or_else h x))
by_three a h x o = go (eqb a 0) refl (eqb h 0) refl
  where
    go : (p : Bool) → eqb a 0 ≡ p → (q : Bool) → eqb h 0 ≡ q → or_else a (or_else (or_else h x) o) ≡ cond (eqb (or_else a (or_else h x)) 0) (or_else a (or_else h o)) (or_else a (or_else h x))
    go false e q f = rw (e, e)
    go true e true f = rw (e, f)
    go true e false f = rw (e, f, f)

-- an index of words that passed its test, or none, can be consulted
pub consults : (c : Chart) (index : List ℕ) → index_after (chart_code c) c.transitions c.sources index ≡ 0
    → ((length index ≡ 0 → ⊥) → all (λ t. ltb (get_or c.sources t 0) (2 ^ 64)) (min c.transitions 64) ≡ true) → consultable c.transitions c.sources index ≡ true
consults c index e words =
    let x = else-zero (chart_code c) (unless (eqb (length index) 0 || is_index c.transitions c.sources index) 20) e in
    let sure = sound c x.0 in
    is-consultable c.transitions c.sources index sure.limits.transitions (fits _ 20 (λ n. omega arith) x.1) sure.some-source words

module _ (c : Chart) (index : List ℕ) (r : Run) (lent : ℕ) where
  -- what the tests before any call tell: what the tests without an index tell, and of the index
  pub record ReadyBy : Type 0 where
    pub indexed : indexed_code c index lent ≡ 0
    pub ready : ready_code c r lent ≡ 0
    pub chart : chart_code c ≡ 0
    pub tested : index_after (chart_code c) c.transitions c.sources index ≡ 0
    pub fitting : (eqb (length index) 0 || is_index c.transitions c.sources index) ≡ true

  pub ready-by : ready_by c index r lent ≡ 0 → ReadyBy
  ready-by e =
      let few = unless (leb 32 lent) 15 in
      let other = unless (eqb (length index) 0 || is_index c.transitions c.sources index) 20 in
      let x = else-zero few (own_after (or_else (chart_code c) other) c.steps c.actions c.cases r) e in
      let y = else-zero (or_else (chart_code c) other) (unless (belongs c r) 12) x.1 in
      let z = else-zero (chart_code c) other y.0 in
      record {
        indexed = sym (goes_on few (or_else (chart_code c) other) x.0) ∙ y.0;
        ready = sym (goes_on few (own_code c r) x.0) ∙ sym (goes_on (chart_code c) (unless (belongs c r) 12) z.0) ∙ y.1;
        chart = z.0;
        tested = y.0;
        fitting = fits _ 20 (λ n. omega arith) z.1;
      }

  -- the first that fails: one of those before 12, or 12
  ready-by-first : ready_by c index r lent ≡ cond (eqb (indexed_code c index lent) 0) (ready_code c r lent) (indexed_code c index lent)
  ready-by-first = by_three (unless (leb 32 lent) 15) (chart_code c) (unless (eqb (length index) 0 || is_index c.transitions c.sources index) 20) (unless (belongs c r) 12)

module _ (c : Chart) (index : List ℕ) (first : Run) (clocks inputs words : List ℕ) (out : List ℤ) where
  pub not-ready-by : (n : ℕ) → n ≡ ready_by c index first (length out) → (n ≡ 0 → ⊥) → made_of n 0 0 first words out ≡ calls_by c index first clocks inputs words out
  not-ready-by n e z = go (eqb (indexed_code c index (length out)) 0) refl
    where
      code : ℕ
      code = indexed_code c index (length out)

      number : n ≡ cond (eqb code 0) (ready_code c first (length out)) code
      number = e ∙ ready-by-first c index first (length out)

      go : (b : Bool) → eqb code 0 ≡ b → made_of n 0 0 first words out ≡ cond b (calls_on c first clocks inputs words out) (no_calls code first words out)
      go true q = not-ready c first clocks inputs words out n (rw q at number) z
      go false q = ap (λ (m : ℕ). made_of m 0 0 first words out) (rw q at number)

  pub made_by : (d : Calls) → indexed_code c index (length out) ≡ 0 → d ≡ calls_on c first clocks inputs words out → d ≡ calls_by c index first clocks inputs words out
  made_by d e h = h ∙ rw e

-- ---- one call is a cycle

-- an accepted cycle's reasons are those of its transitions, a refused one's are 0
pub why-kept : (c : Chart) (r : Run) (clock inputs lent : ℕ) → (cycle_of c r clock inputs lent).reasons ≡ kept_if (cycle_of c r clock inputs lent).code (why_in c r clock inputs)
why-kept c r clock inputs lent = go (eqb (cycle_code c r clock lent) 0) refl
  where
    o : Bool → Cycled
    o b = cond b (cycled c r clock inputs) (refused (cycle_code c r clock lent) r)

    go : (b : Bool) → eqb (cycle_code c r clock lent) 0 ≡ b → (o b).reasons ≡ kept_if (o b).code (why_in c r clock inputs)
    go true e = refl
    go false e = rw e

pub why-most : (c : Chart) (r : Run) (clock inputs lent k : ℕ) → k < 64 → get_or (cycle_of c r clock inputs lent).reasons k 0 ≤ 7
why-most c r clock inputs lent k l = rw (why-kept c r clock inputs lent) (go (eqb (cycle_of c r clock inputs lent).code 0))
  where
    go : (b : Bool) → get_or (cond b (why_in c r clock inputs) no_reasons) k 0 ≤ 7
    go true = reasons-most r.hold c.edition c.sources c.targets c.on c.off c.wait (counts_at r clock) r.active (signals_of inputs r.activity) c.transitions k l
    go false = let z : get_or no_reasons k 0 ≡ 0 = get_or-replicate 64 k 0 0 l in omega arith

-- with the reasons, which the calls do not make, beside it
abbrev answer_in : List ℕ → Calls → Cycled × List ℤ
answer_in why d = (record { code = d.code; taken = d.taken; reasons = kept_if d.code why; run = d.run }, d.outputs)

once : (c : Chart) (r : Run) (clock inputs : ℕ) (acts : List ℕ) (out : List ℤ) → length acts ≡ 1
    → answer_in (why_in c r clock inputs) (calls_on c r (clock ∷ []) (inputs ∷ []) acts out) ≡ cycle_on c r clock inputs out
unfolding singly turns
once c r clock inputs acts out h = go (eqb (ready_code c r (length out)) 0) refl
  where
    o : Cycled
    o = cycle_of c r clock inputs (length out)

    why : List ℕ
    why = why_in c r clock inputs

    accepted : (e : Bool) → eqb o.code 0 ≡ e
        → answer_in why (cond e (made_of 0 1 o.taken o.run (set acts 0 o.run.activity) (outputs_after c o out)) (made_of o.code 0 o.taken o.run acts (outputs_after c o out))) ≡ cycle_on c r clock inputs out
    accepted true q =
        ap₂ {C = Cycled × List ℤ} (λ (n : ℕ) (l : List ℕ). (record { code = n; taken = o.taken; reasons = l; run = o.run }, outputs_after c o out)) (sym (eqb-true o.code 0 q))
        (sym (why-kept c r clock inputs (length out) ∙ rw q))
    accepted false q =
        ap {B = Cycled × List ℤ} (λ (l : List ℕ). (record { code = o.code; taken = o.taken; reasons = l; run = o.run }, outputs_after c o out)) (sym (why-kept c r clock inputs (length out)))

    go : (b : Bool) → eqb (ready_code c r (length out)) 0 ≡ b
        → answer_in why (cond b (singly c r (clock ∷ []) (inputs ∷ []) acts out (min 1 (length acts))) (no_calls (ready_code c r (length out)) r acts out)) ≡ cycle_on c r clock inputs out
    go true q = rw h (accepted (eqb o.code 0) refl)
    go false q =
        let z = eqb-false _ 0 q in
        turned-away c (cycle_code c r clock (length out)) (ready_code c r (length out)) (cycled c r clock inputs) _ r out (stops _ _ z) z (rw q)

pub once_by : (c : Chart) (index : List ℕ) (r : Run) (clock inputs : ℕ) (acts : List ℕ) (out : List ℤ) → length acts ≡ 1
    → answer_in (why_in c r clock inputs) (calls_by c index r (clock ∷ []) (inputs ∷ []) acts out) ≡ cycle_on_by c index r clock inputs out
once_by c index r clock inputs acts out h = go (eqb code 0) refl
  where
    code : ℕ
    code = indexed_code c index (length out)

    go : (b : Bool) → eqb code 0 ≡ b → answer_in (why_in c r clock inputs) (cond b (calls_on c r (clock ∷ []) (inputs ∷ []) acts out) (no_calls code r acts out)) ≡ cycle_on_by c index r clock inputs out
    go true q = once c r clock inputs acts out h ∙ rw q
    go false q = turned-away c code code (cycle_of c r clock inputs (length out)) _ r out refl (eqb-false code 0 q) (rw q)

-- the answer and the outputs, if the reasons were kept
pub one-cycle : (c : Chart) (index : List ℕ) (r : Run) (clock inputs : ℕ) (acts why : List ℕ) (out : List ℤ) (d : Calls) → length acts ≡ 1 → why ≡ why_in c r clock inputs
    → d ≡ calls_by c index r (clock ∷ []) (inputs ∷ []) acts out → let o : Cycled = record { code = d.code; taken = d.taken; reasons = kept_if d.code why; run = d.run } in
    (o ≡ cycle_by c index r clock inputs (length out)) × (d.outputs ≡ outputs_after c o out)
one-cycle c index r clock inputs acts why out d h w e =
    apart c (cycle_by c index r clock inputs (length out)) _ out d.outputs
    (ap (λ (l : List ℕ). answer_in l d) w ∙ ap (answer_in (why_in c r clock inputs)) e ∙ once_by c index r clock inputs acts out h)

-- so of the code's answers
module _ (c : Chart) (index : List ℕ) (r : Run) (clock inputs : ℕ) (acts words : List ℕ) (out left : List ℤ) (run : Run) (one : length acts ≡ 1) where
  abbrev made : Calls
  made = calls_by c index r (clock ∷ []) (inputs ∷ []) acts out

  abbrev pub Cycles : Result Cycle Refusal → Type 0
  Cycles x = (cycled_as x run ≡ cycle_by c index r clock inputs (length out)) × (left ≡ outputs_after c (cycled_as x run) out)

  pub one-went : (w : Went) (why : List ℕ) → why ≡ why_in c r clock inputs → calls_as (Ok w) run words left ≡ made → Cycles (Ok (record { taken = w.taken; reasons = why }))
  one-went w why h e = one-cycle c index r clock inputs acts why out _ one h e

  pub one-stopped : (s : Stopped) (x : Result Cycle Refusal) → IsErrAnd x (λ e. e ≡ s.refusal) → calls_as (Err s) run words left ≡ made → Cycles x
  one-stopped s (Ok y) h e = elim h [ ]
  one-stopped s (Err f) h e =
      let o = one-cycle c index r clock inputs acts (why_in c r clock inputs) out _ one refl e in
      let kept = kept_if (number s.refusal) (why_in c r clock inputs) in
      let none : kept ≡ no_reasons = rw (ne_eqb (number s.refusal) 0 (number-some s.refusal)) in
      let same : cycled_as (Err f) run ≡ record { code = number s.refusal; taken = 0; reasons = kept; run = run } = ap₂ {C = Cycled} (λ (n : ℕ) (l : List ℕ). record { code = n; taken = 0; reasons = l; run = run }) (ap number h) (sym none) in
      (same ∙ o.0, o.1 ∙ ap (λ (x : Cycled). outputs_after c x out) (sym same))

-- ---- without an index

-- the tests before 12 are then tests before 12 of the cycle
pub none-indexed : (c : Chart) (r : Run) (lent : ℕ) → (indexed_code c [] lent ≡ 0 → ⊥) → indexed_code c [] lent ≡ ready_code c r lent
none-indexed c r lent z =
    let few = unless (leb 32 lent) 15 in
    let own = unless (belongs c r) 12 in
    sym (by_three few (chart_code c) 0 own ∙ rw (ne_eqb (indexed_code c [] lent) 0 z)) ∙ ap (λ (n : ℕ). or_else few (or_else n own)) (else-none (chart_code c))

pub cycle-by-none : (c : Chart) (r : Run) (clock inputs lent : ℕ) → cycle_by c [] r clock inputs lent ≡ cycle_of c r clock inputs lent
cycle-by-none c r clock inputs lent = go (eqb (indexed_code c [] lent) 0) refl
  where
    code : ℕ
    code = indexed_code c [] lent

    go : (b : Bool) → eqb code 0 ≡ b → cond b (cycle_of c r clock inputs lent) (refused code r) ≡ cycle_of c r clock inputs lent
    go true q = refl
    go false q =
        let z = eqb-false code 0 q in
        let same = none-indexed c r lent z in
        refused-by (cycle_code c r clock lent) code (cycled c r clock inputs) (refused code r) r r (same ∙ stops (ready_code c r lent) _ (λ n. z (same ∙ n))) z refl refl
