-- For Answers: an entry's number is its tests' first, what holds of each number that the tests give holds of it, and what a refusal leaves.
use Prim.Native.Nat.{ℕ, zero, suc, ◌+◌, ◌-◌, ◌<◌}
use Rattle.std.specs.Prelude.{Bool, true, false, List, ◌≡◌, refl, ℤ, get_or, take, drop, leb, ltb, eqb}
use Rattle.std.proofs.Math.Bool.{cond}
use Rattle.std.proofs.Common.{sym, ap, ◌∙◌, arith, take_at, drop_at, eqb-true, eq-eqb, ne_eqb}
use Rattle.std.proofs.Math.ListN.{length}
use Rattle.sets.specs.Loops.{first_code}
use Rattle.sets.proofs.Loops.{first_found}
use Rattle.fields.specs.Fields.{unless, kind_fits, step_fits, action_fits, block_fits, case_fits, second}
use Rattle.chart.specs.Chart.{empty_chart}
use Rattle.chart.specs.Held.{closing_code}
use Rattle.chart.specs.declared.chart.Chart.{Chart}
use Rattle.chart.proofs.held.Each.{either, else-each, transition-each, closing-each, chart-each}
use Rattle.reader.specs.Framing.{length_at, kind_at, body_length, head_number, record_number}
use Rattle.reader.specs.Bodies.{body_at}
use Rattle.reader.specs.Reading.{refused, accepted, closed, ended, with_body, number_in, taken, read_from, read_chart}
use Rattle.judging.specs.declared.Body.{Body}
use Rattle.judging.specs.declared.Body.TheVariants.{Step, Action, Transition, Block, Case, Edition}
use Rattle.reader.specs.Answer.{Reading}
use Rattle.run.specs.Run.{no_run}
use Rattle.run.specs.Belongs.{belongs, own_code}
use Rattle.run.specs.declared.run.Run.{Run}
use Rattle.passes.specs.Time.{elapsed}
use Rattle.passes.specs.Outputs.{outputs_of}
use Rattle.cycle.specs.Cycling.{refused as turned-away, start_code, ready_code, late_code, cycle_code, started, start_of, cycled, cycle_of, outputs_after}
use Rattle.passes.specs.Explaining.{no_reasons}
use Rattle.cycle.specs.Answer.{Cycled}
use Rattle.passes.proofs.outputs.Laws.{outputs-length}
use Rattle.trace.specs.Tracing.{is_over, record_fits, trace_number}
use Rattle.key.specs.Turning.{mark_of, marked, turned_as, turn_of}
use Rattle.key.specs.Answer.{Turned}
use Rattle.tally.specs.Tallying.{counts_of, refused as uncounted, tally_of}
use Rattle.tally.specs.Weighing.{balanced, unbalanced, unbalanced_in, weigh_code, refused as unweighed, weighed, weigh_of}
use Rattle.tally.specs.Answer.{Tallied, Weighed}
use Rattle.claims.proofs.Runs.{each_start}

-- ---- an answer by its number

-- an answer chosen by its number has that number
pub picked : {A : Type 0} (code : A → ℕ) (n : ℕ) (x y : A) → code x ≡ 0 → code y ≡ n → code (cond (eqb n 0) x y) ≡ n
picked code n x y e f = go (eqb n 0) refl
  where
    go : (b : Bool) → eqb n 0 ≡ b → code (cond b x y) ≡ n
    go true h = e ∙ sym (eqb-true n 0 h)
    go false h = f

-- one whose number is not 0 is the refusal
pub refused-one : {A : Type 0} (code : A → ℕ) (n : ℕ) (x y : A) → code x ≡ 0 → (code (cond (eqb n 0) x y) ≡ 0 → ⊥) → cond (eqb n 0) x y ≡ y
refused-one code n x y e = go (eqb n 0)
  where
    go : (b : Bool) → (code (cond b x y) ≡ 0 → ⊥) → cond b x y ≡ y
    go true z = absurd (z e)
    go false z = refl

-- the numbers of start, cycle, tally and weighing are those of their tests
pub start-code : (c : Chart) (clock lent : ℕ) → (start_of c clock lent).code ≡ start_code c lent
start-code c clock lent = picked (λ (o : Cycled). o.code) (start_code c lent) (started c clock) (turned-away (start_code c lent) no_run) refl refl

-- a start explains nothing, accepted or refused
pub start-reasons : (c : Chart) (clock lent : ℕ) → (start_of c clock lent).reasons ≡ no_reasons
start-reasons c clock lent = each_start (λ o. o.reasons ≡ no_reasons) c clock lent (λ e. refl) (λ code z. refl)

pub cycle-code : (c : Chart) (r : Run) (clock inputs lent : ℕ) → (cycle_of c r clock inputs lent).code ≡ cycle_code c r clock lent
cycle-code c r clock inputs lent =
    picked (λ (o : Cycled). o.code) (cycle_code c r clock lent) (cycled c r clock inputs) (turned-away (cycle_code c r clock lent) r) refl refl

pub key-code : (held : Bool) (c : Chart) (r : Run) → (turn_of held c r).code ≡ own_code c r
key-code held c r = picked (λ (o : Turned). o.code) (own_code c r) (turned_as 0 (marked (mark_of held) r)) (turned_as (own_code c r) r) refl refl

pub tally-code : (c : Chart) (r : Run) → (tally_of c r).code ≡ own_code c r
tally-code c r = picked (λ (o : Tallied). o.code) (own_code c r) (counts_of c.cases r.good r.bad) (uncounted (own_code c r)) refl refl

pub weigh-code : (c : Chart) (weights : List ℕ) → (weigh_of c weights).code ≡ weigh_code c weights
weigh-code c weights = picked (λ (o : Weighed). o.code) (weigh_code c weights) (weighed c weights) (unweighed (weigh_code c weights) _) refl refl

-- the key refused returns the run as given, and accepted the run with its mark
pub key-refused : (held : Bool) (c : Chart) (r : Run) → ((turn_of held c r).code ≡ 0 → ⊥) → turn_of held c r ≡ turned_as (own_code c r) r
key-refused held c r = refused-one (λ (o : Turned). o.code) (own_code c r) (turned_as 0 (marked (mark_of held) r)) (turned_as (own_code c r) r) refl

pub key-accepted : (held : Bool) (c : Chart) (r : Run) → (turn_of held c r).code ≡ 0 → (turn_of held c r).run ≡ marked (mark_of held) r
key-accepted held c r e = rw (sym (key-code held c r) ∙ e)

-- a refused tally has three zeros, and a refused weighing total 0
pub tally-refused : (c : Chart) (r : Run) → ((tally_of c r).code ≡ 0 → ⊥) → tally_of c r ≡ uncounted (own_code c r)
tally-refused c r = refused-one (λ (o : Tallied). o.code) (own_code c r) (counts_of c.cases r.good r.bad) (uncounted (own_code c r)) refl

pub weigh-refused : (c : Chart) (weights : List ℕ) → ((weigh_of c weights).code ≡ 0 → ⊥) → (weigh_of c weights).total ≡ 0
weigh-refused c weights z =
    ap (λ (o : Weighed). o.total) (refused-one (λ (o : Weighed). o.code) (weigh_code c weights) (weighed c weights) (unweighed (weigh_code c weights) _) refl z)

-- a transition is named only with 14
pub weigh-names : (c : Chart) (weights : List ℕ) → ((weigh_of c weights).code ≡ 14 → ⊥) → (weigh_of c weights).transition ≡ 0
weigh-names c weights = go (eqb (weigh_code c weights) 0)
  where
    other : Weighed
    other = unweighed (weigh_code c weights) (cond (eqb (weigh_code c weights) 14) (unbalanced_in c weights - 1) 0)

    go : (b : Bool) → ((cond b (weighed c weights) other).code ≡ 14 → ⊥) → (cond b (weighed c weights) other).transition ≡ 0
    go true z = refl
    go false z = rw (ne_eqb (weigh_code c weights) 14 z)

-- ---- what holds of each number

-- the same of the other entries (the chart's own numbers: chart's held/Each)
module _ (P : ℕ → Type 0) where
  -- the record step: 1, 2, 3
  module _ (p0 : P 0) (p1 : P 1) (p2 : P 2) (p3 : P 3) where
    pub record-each : (s : List ℕ) (at before : ℕ) → P (record_number s at before)
    unfolding record_number
    record-each s at before =
        let n = length_at s at in
        let k = kind_at s at in
        let rest = length s - (at + 4) in
        let whole : ℕ = cond (leb n rest) 0 1 in
        let sized : ℕ = cond (eqb n (body_length k)) whole 3 in
        either P (leb 4 (length s - at)) (head_number n k rest before) 1
        (either P (kind_fits k before) sized 2 (either P (eqb n (body_length k)) whole 3 (either P (leb n rest) 0 1 p0 p1) p3) p2) p1

  module _ (p0 : P 0) (p4 : P 4) (p5 : P 5) (p6 : P 6) (p7 : P 7) (p9 : P 9) (p8 : P 8) where
    -- the entries that test the chart, with numbers of their own
    pub start-each : P 15 → (c : Chart) (clock lent : ℕ) → P (start_of c clock lent).code
    start-each p15 c clock lent = rw (start-code c clock lent) (else-each P _ _ (either P (leb 32 lent) 0 15 p0 p15) (chart-each P p0 p4 p5 p6 p7 p9 p8 c))

    pub own-each : P 12 → (c : Chart) (r : Run) → P (own_code c r)
    own-each p12 c r = else-each P _ _ (chart-each P p0 p4 p5 p6 p7 p9 p8 c) (either P (belongs c r) 0 12 p0 p12)

    pub ready-each : P 15 → P 12 → (c : Chart) (r : Run) (lent : ℕ) → P (ready_code c r lent)
    ready-each p15 p12 c r lent =
        else-each P _ _ (either P (leb 32 lent) 0 15 p0 p15) (own-each p12 c r)

    pub cycle-each : P 15 → P 12 → P 11 → (c : Chart) (r : Run) (clock inputs lent : ℕ) → P (cycle_of c r clock inputs lent).code
    cycle-each p15 p12 p11 c r clock inputs lent =
        rw (cycle-code c r clock inputs lent)
        (else-each P (ready_code c r lent) (late_code r clock) (ready-each p15 p12 c r lent) (either P (leb (elapsed r.clock clock) 60000) 0 11 p0 p11))

    pub key-each : P 12 → (held : Bool) (c : Chart) (r : Run) → P (turn_of held c r).code
    key-each p12 held c r = rw (key-code held c r) (own-each p12 c r)

    pub tally-each : P 12 → (c : Chart) (r : Run) → P (tally_of c r).code
    tally-each p12 c r = rw (tally-code c r) (own-each p12 c r)

    pub weigh-each : P 13 → P 14 → (c : Chart) (weights : List ℕ) → P (weigh_of c weights).code
    weigh-each p13 p14 c weights =
        rw (weigh-code c weights)
        (else-each P _ _ (chart-each P p0 p4 p5 p6 p7 p9 p8 c)
        (else-each P _ _ (either P (eqb (length weights) c.steps) 0 13 p0 p13) (either P (eqb (unbalanced_in c weights) 0) 0 14 p0 p14)))

  -- a trace record: 16
  pub trace-each : P 0 → P 16 → (s : List ℕ) (at : ℕ) → P (trace_number s at)
  trace-each p0 p16 s at = either P (is_over s at) 0 (unless (record_fits s at) 16) p0 (either P (record_fits s at) 0 16 p0 p16)

  -- reading: all from 1 to 10
  module _ (p0 : P 0) (p1 : P 1) (p2 : P 2) (p3 : P 3) (p4 : P 4) (p5 : P 5) (p6 : P 6) (p7 : P 7) (p10 : P 10) (p9 : P 9) (p8 : P 8) where
    -- a body read into the chart: 4, 5, 6, 7
    body-each : (c : Chart) (b : Body) → P (number_in c b)
    body-each c (Step i) = else-each P _ _ (either P (ltb c.steps 64) 0 4 p0 p4) (either P (step_fits i) 0 5 p0 p5)
    body-each c (Action o v) = else-each P _ _ (either P (ltb c.actions 32) 0 4 p0 p4) (either P (action_fits o) 0 5 p0 p5)
    body-each c (Transition f g on off w) = else-each P _ _ (either P (ltb c.transitions 64) 0 4 p0 p4) (transition-each P p0 p5 p6 p7 c.steps c.actions f g on off w)
    body-each c (Block k a q d) = else-each P _ _ (either P (ltb c.blocks 256) 0 4 p0 p4) (either P (block_fits c.steps c.actions k a q d) 0 5 p0 p5)
    body-each c (Case k n e) = else-each P _ _ (either P (ltb c.cases 64) 0 4 p0 p4) (either P (case_fits c.steps c.actions k n e) 0 5 p0 p5)
    body-each c (Edition x) = else-each P _ _ (either P (ltb c.edition 2) 0 4 p0 p4) (either P (second x) 0 5 p0 p5)

    -- one of two readings, by a test
    answer-either : (t : Bool) (x y : Reading) → P x.code → P y.code → P (cond t x y).code
    answer-either true x y a b = a
    answer-either false x y a b = b

    -- after the end record: 10, 9, 8
    ended-each : (size next : ℕ) (c : Chart) → P (ended size next c).code
    ended-each size next c =
        let n = closing_code c.steps c.blocks c.initial c.blockaction c.qualifier in
        answer-either (ltb next size) (refused 10 next) (closed n c) p10 (answer-either (eqb n 0) (accepted c) (refused n 0) p0 (closing-each P p0 p9 p8 c))

    -- record after record
    from_each : (f : ℕ) (s : List ℕ) (at before : ℕ) (c : Chart) → P (read_from f s at before c).code
    unfolding read_from
    from_each zero s at before c = p1
    from_each (suc f) s at before c =
        let k = kind_at s at in
        let b = body_at s k (at + 4) in
        let onward = read_from f s (at + 4 + length_at s at) k in
        let over = ended (length s) (at + 4) c in
        let n = record_number s at before in
        answer-either (eqb n 0) (cond (eqb k 0) over (taken at c b onward)) (refused n at)
        (answer-either (eqb k 0) over (taken at c b onward) (ended-each (length s) (at + 4) c)
        (answer-either (eqb (number_in c b) 0) (onward (with_body c b)) (refused (number_in c b) at)
        (from_each f s (at + 4 + length_at s at) (kind_at s at) (with_body c (body_at s (kind_at s at) (at + 4)))) (body-each c b)))
        (record-each p0 p1 p2 p3 s at before)

    pub read-each : (s : List ℕ) → P (read_chart s).code
    read-each s = from_each (length s + 1) s 0 0 (empty_chart 1)

-- ---- the first unbalanced transition

-- no number at all
pub first-none : (f : ℕ → ℕ) (n : ℕ) → ((i : ℕ) → i < n → f i ≡ 0) → first_code f n ≡ 0
unfolding first_code
first-none f zero h = refl
first-none f (suc n) h = rw (first-none f n (λ i l. h i (omega arith))) (h n (omega arith))

module _ (c : Chart) (weights : List ℕ) where
  -- transition t is balanced
  abbrev fair : ℕ → Bool
  fair t = balanced weights (get_or c.sources t 0) (get_or c.targets t 0)

  -- if each is, none is found
  pub all-balanced : ((t : ℕ) → t < c.transitions → fair t ≡ true) → unbalanced_in c weights ≡ 0
  unfolding unbalanced
  all-balanced h = first-none (λ t. unless (fair t) (t + 1)) c.transitions (λ t l. rw (h t l))

  -- the first that is not is found
  pub first-unbalanced : (t : ℕ) → t < c.transitions → ((u : ℕ) → u < t → fair u ≡ true) → fair t ≡ false → t + 1 ≡ unbalanced_in c weights
  unfolding unbalanced
  first-unbalanced t l h e =
      first_found (λ t. unless (fair t) (t + 1)) t c.transitions (t + 1) (first-none (λ t. unless (fair t) (t + 1)) t (λ u k. rw (h u k))) l (rw e) (λ z. omega arith)

-- ---- the lent outputs

module _ (c : Chart) (o : Cycled) (out : List ℤ) where
  -- a refusal leaves them
  pub left_alone : (o.code ≡ 0 → ⊥) → outputs_after c o out ≡ out
  left_alone z = rw (ne_eqb o.code 0 z)

  -- an accepted call writes the first 32
  pub front-written : o.code ≡ 0 → take 32 (outputs_after c o out) ≡ outputs_of c.actions c.output c.value o.run.activity
  front-written e =
      rw (eq-eqb o.code 0 e)
      (take_at (outputs_of c.actions c.output c.value o.run.activity) (drop 32 out) 32 (outputs-length c.actions c.output c.value o.run.activity))

  -- and no others
  pub rest-kept : o.code ≡ 0 → drop 32 (outputs_after c o out) ≡ drop 32 out
  rest-kept e =
      rw (eq-eqb o.code 0 e)
      (drop_at (outputs_of c.actions c.output c.value o.run.activity) (drop 32 out) 32 (outputs-length c.actions c.output c.value o.run.activity))
