-- What is proved of specs/Answers.antt.
use Rattle.std.specs.Prelude.{ℕ, ◌+◌, ◌-◌, ◌≤◌, Bool, true, List, ◌∷◌, ◌≡◌, refl, ℤ, length, eqb}
use Rattle.std.proofs.Common.{sym, ap, ◌∙◌, arith, le-leb, eq-eqb, ne_eqb}
use Rattle.std.proofs.lemmas.Bool.{lt-leb}
use Rattle.sets.specs.Loops.{or_else}
use Rattle.fields.specs.Fields.{unless}
use Rattle.chart.specs.Held.{chart_code}
use Rattle.chart.specs.declared.chart.Chart.{Chart}
use Rattle.chart.proofs.held.Each.{chart-each}
use Rattle.reader.specs.Framing.{length_at, kind_at, body_length, record_number, record_values}
use Rattle.reader.specs.Reading.{read_chart}
use Rattle.reader.proofs.framing.Laws.{is-record}
use Rattle.reader.proofs.reading.Accepted.{read-accepted, read-refused}
use Rattle.run.specs.Belongs.{belongs, own_code}
use Rattle.run.specs.declared.run.Run.{Run}
use Rattle.passes.specs.Time.{elapsed}
use Rattle.cycle.specs.Cycling.{start_code, ready_code, late_code, cycle_code, start_of, cycle_of}
use Rattle.cycle.specs.Answer.{Cycled}
use Rattle.cycle.proofs.cycling.Kept.{start-refused, cycle-refused}
use Rattle.cycle.proofs.cycling.Laws.{few, enough, stops, goes_on, too-late, in-time}
use Rattle.key.specs.Turning.{turn_of}
use Rattle.key.specs.Answer.{Turned}
use Rattle.trace.specs.Tracing.{trace_number}
use Rattle.tally.specs.Tallying.{tally_of}
use Rattle.tally.specs.Weighing.{unbalanced_in, weigh_code, weigh_of}
use Rattle.tally.specs.Answer.{Tallied, Weighed}
use Rattle.claims.proofs.Numbers.{record-each, read-each, start-each, cycle-each, key-each, tally-each, weigh-each, trace-each, start-code, start-reasons, cycle-code, key-code, key-refused, key-accepted, tally-code, weigh-code, tally-refused, weigh-refused, weigh-names, all-balanced, first-unbalanced, left_alone, front-written, rest-kept}
use Rattle.claims.proofs.Tests.{weights-refused, balance-refused, weigh-accepted}
use Rattle.claims.specs.Answers.{one_of, record_numbers, reading_numbers, chart_numbers, start_numbers, cycle_numbers, own_numbers, weighing_numbers, trace_numbers, Numbered, RecordAnswer, ReadingAnswer, StartAnswer, CycleAnswer, KeyAnswer, TallyAnswer, WeighingAnswer, TraceAnswer}

pub numbered : Numbered
numbered = record {
  record-step = record-each (λ n. one_of (0 ∷ record_numbers) n ≡ true) refl refl refl refl;
  reading = read-each (λ n. one_of (0 ∷ reading_numbers) n ≡ true) refl refl refl refl refl refl refl refl refl refl refl;
  chart = chart-each (λ n. one_of (0 ∷ chart_numbers) n ≡ true) refl refl refl refl refl refl refl;
  start = start-each (λ n. one_of (0 ∷ start_numbers) n ≡ true) refl refl refl refl refl refl refl refl;
  cycle = cycle-each (λ n. one_of (0 ∷ cycle_numbers) n ≡ true) refl refl refl refl refl refl refl refl refl refl;
  key = key-each (λ n. one_of (0 ∷ own_numbers) n ≡ true) refl refl refl refl refl refl refl refl;
  tally = tally-each (λ n. one_of (0 ∷ own_numbers) n ≡ true) refl refl refl refl refl refl refl refl;
  weighing = weigh-each (λ n. one_of (0 ∷ weighing_numbers) n ≡ true) refl refl refl refl refl refl refl refl refl;
  trace = trace-each (λ n. one_of (0 ∷ trace_numbers) n ≡ true) refl refl;
}

pub record-answers : (s : List ℕ) (at before : ℕ) → RecordAnswer s at before (record_number s at before) (record_values s at before)
unfolding record_number record_values
record-answers s at before = record {
  cut-head = λ h. rw (lt-leb 4 (length s - at) (omega arith));
  bad_kind = λ h k. rw (le-leb 4 (length s - at) (omega arith), k);
  bad-length = λ h k z. rw (le-leb 4 (length s - at) (omega arith), k, ne_eqb (length_at s at) (body_length (kind_at s at)) z);
  cut-body = λ h k e l. rw (le-leb 4 (length s - at) (omega arith), k, eq-eqb (length_at s at) (body_length (kind_at s at)) e, lt-leb (length_at s at) (length s - (at + 4)) (omega arith));
  accepted = is-record s at before;
  same_place = λ z. rw (ne_eqb (record_number s at before) 0 z);
}

pub reading-answers : (s : List ℕ) → ReadingAnswer (read_chart s)
reading-answers s = record { no-chart = read-refused s; passes = λ e. (read-accepted s e).passes }

pub start-answers : (c : Chart) (clock : ℕ) (out : List ℤ) → StartAnswer c out (start_of c clock (length out))
start-answers c clock out =
    let o = start_of c clock (length out) in
    let n : o.code ≡ start_code c (length out) = start-code c clock (length out) in
    record {
      few-outputs = λ h. n ∙ sym (few (chart_code c) (length out) h);
      bad-chart = λ h z. n ∙ sym (enough (chart_code c) (length out) h);
      accepted = λ h e. n ∙ sym (enough (chart_code c) (length out) h) ∙ e;
      no-run = λ z. ap (λ (o : Cycled). o.run) (start-refused c clock (length out) z);
      takes-nothing = λ z. ap (λ (o : Cycled). o.taken) (start-refused c clock (length out) z);
      no-reasons = start-reasons c clock (length out);
      untouched = left_alone c o out;
      writes = front-written c o out;
      no-others = rest-kept c o out;
    }

pub cycle-answers : (c : Chart) (r : Run) (clock inputs : ℕ) (out : List ℤ) → CycleAnswer c r clock out (cycle_of c r clock inputs (length out))
cycle-answers c r clock inputs out =
    let o = cycle_of c r clock inputs (length out) in
    let n : o.code ≡ cycle_code c r clock (length out) = cycle-code c r clock inputs (length out) in
    let late : ℕ = late_code r clock in
    let own : ℕ = unless (belongs c r) 12 in
    let ready : ℕ = ready_code c r (length out) in
    let on : 32 ≤ length out → chart_code c ≡ 0 → ready ≡ own = λ h e. sym (goes_on (chart_code c) own e ∙ enough (or_else (chart_code c) own) (length out) h) in
    let stopped : (k : ℕ) → (k ≡ 0 → ⊥) → ready ≡ k → o.code ≡ k = λ k z e. n ∙ sym (stops ready late (λ q. z (sym e ∙ q))) ∙ e in
    let tested : 32 ≤ length out → chart_code c ≡ 0 → belongs c r ≡ true → o.code ≡ late = λ h e f. n ∙ sym (goes_on ready late (on h e ∙ ap (λ (b : Bool). unless b 12) f)) in
    record {
      few-outputs = λ h. stopped 15 (λ z. omega arith) (sym (few (or_else (chart_code c) own) (length out) h));
      bad-chart = λ h z. stopped (chart_code c) z (sym (stops (chart_code c) own z ∙ enough (or_else (chart_code c) own) (length out) h));
      other-run = λ h e f. stopped 12 (λ z. omega arith) (on h e ∙ ap (λ (b : Bool). unless b 12) f);
      too-late = λ h e f l. tested h e f ∙ sym (too-late (elapsed r.clock clock) l);
      accepted = λ h e f l. tested h e f ∙ sym (in-time (elapsed r.clock clock) l);
      same-run = λ z. ap (λ (o : Cycled). o.run) (cycle-refused c r clock inputs (length out) z);
      takes-nothing = λ z. ap (λ (o : Cycled). o.taken) (cycle-refused c r clock inputs (length out) z);
      no-reasons = λ z. ap (λ (o : Cycled). o.reasons) (cycle-refused c r clock inputs (length out) z);
      untouched = left_alone c o out;
      writes = front-written c o out;
      no-others = rest-kept c o out;
    }

pub key-answers : (held : Bool) (c : Chart) (r : Run) → KeyAnswer held c r (turn_of held c r)
key-answers held c r =
    let o = turn_of held c r in
    let n : o.code ≡ own_code c r = key-code held c r in
    let own : ℕ = unless (belongs c r) 12 in
    record {
      bad-chart = λ z. n ∙ sym (stops (chart_code c) own z);
      other-run = λ e f. n ∙ sym (goes_on (chart_code c) own e) ∙ ap (λ (b : Bool). unless b 12) f;
      accepted = λ e f. n ∙ sym (goes_on (chart_code c) own e) ∙ ap (λ (b : Bool). unless b 12) f;
      same-run = λ z. ap (λ (o : Turned). o.run) (key-refused held c r z);
      mark = key-accepted held c r;
    }

pub tally-answers : (c : Chart) (r : Run) → TallyAnswer c r (tally_of c r)
tally-answers c r =
    let o = tally_of c r in
    let n : o.code ≡ own_code c r = tally-code c r in
    let own : ℕ = unless (belongs c r) 12 in
    record {
      bad-chart = λ z. n ∙ sym (stops (chart_code c) own z);
      other-run = λ e f. n ∙ sym (goes_on (chart_code c) own e) ∙ ap (λ (b : Bool). unless b 12) f;
      accepted = λ e f. n ∙ sym (goes_on (chart_code c) own e) ∙ ap (λ (b : Bool). unless b 12) f;
      three-zeros = λ z. (ap (λ (o : Tallied). o.passed) (tally-refused c r z), ap (λ (o : Tallied). o.failed) (tally-refused c r z), ap (λ (o : Tallied). o.notrun) (tally-refused c r z));
    }

pub weighing-answers : (c : Chart) (weights : List ℕ) → WeighingAnswer c weights (weigh_of c weights)
weighing-answers c weights =
    let o = weigh_of c weights in
    let n : o.code ≡ weigh_code c weights = weigh-code c weights in
    let fair : ℕ = unless (eqb (unbalanced_in c weights) 0) 14 in
    let many : ℕ = or_else (unless (eqb (length weights) c.steps) 13) fair in
    record {
      bad-chart = λ z. n ∙ sym (stops (chart_code c) many z);
      wrong-weights = λ e z. ap (λ (o : Weighed). o.code) (weights-refused c weights e z);
      unbalanced = λ e l t k h f.
          let q = balance-refused c weights e l t (sym (first-unbalanced c weights t k h f)) in
          (ap (λ (o : Weighed). o.code) q, ap (λ (o : Weighed). o.transition) q);
      accepted = λ e l h. ap (λ (o : Weighed). o.code) (weigh-accepted c weights e l (all-balanced c weights h));
      no-total = weigh-refused c weights;
      names-none = weigh-names c weights;
    }

pub trace-answers : (s : List ℕ) (at : ℕ) → TraceAnswer s at (trace_number s at)
trace-answers s at = record {
  over = λ h. rw (le-leb (length s) at h);
  bad-record = λ h f. rw (lt-leb (length s) at h, f);
  accepted = λ h f. rw (lt-leb (length s) at h, f);
}
