-- What is proved of specs/Results.antt.
use Rattle.std.specs.Prelude.{ℕ, min, true, false, Option, Some, None, ◌≡◌, refl}
use Rattle.std.proofs.Common.{ap}
use Rattle.refusals.proofs.Laws.{code-one}
use Rattle.sets.proofs.Unique.{one_answer}
use Rattle.sets.specs.Visiting.{Visits}
use Rattle.sets.specs.declared.Unvisited.{Unvisited}
use Rattle.fields.proofs.Unique.{names-unique}
use Rattle.reader.proofs.Unique.{answer-unique, read-into-unique, read-chart-unique}
use Rattle.grammar.proofs.Unique.{read-text-one}
use Rattle.acting.specs.Acting.{asked, acted}
use Rattle.acting.specs.declared.Acted.{Acted}
use Rattle.index.proofs.Unique.{index-of-unique}
use Rattle.run.specs.Apart.{counts_of, times_of}
use Rattle.passes.specs.Outputs.{written}
use Rattle.passes.specs.Rests.{rests}
use Rattle.cycle.specs.Stepping.{all_kept}
use Rattle.stepping.proofs.Unique.{cycles-on-unique}
use Rattle.calls.proofs.Unique.{start-unique, cycle-unique, cycle-by-unique}
use Rattle.key.proofs.Unique.{turn-unique}
use Rattle.shift.proofs.Unique.{check-lists-unique, shift-unique, shift-by-unique}
use Rattle.trace.proofs.Unique.{call-at-unique}
use Rattle.tally.proofs.Unique.{tally-unique, weigh-unique}
use Rattle.adding.proofs.Unique.{add-steps-unique, add-unique}
use Rattle.writer.proofs.Unique.{write-chart-one}
use Rattle.report.specs.Answer.{Printed}
use Rattle.weights.proofs.Unique.{says-unique, list-unique}
use Rattle.page.specs.Page.{page_line}
use Rattle.page.specs.Answer.{heard_as}
use Rattle.claims.specs.Results.{Results}
use Rattle.claims.proofs.Unique.{with_it, puts}

-- members that are still to come, by their set
unvisited : {s t : ℕ} → s ≡ t → ◌≡◌ {A = Unvisited} (record { rest = s }) (record { rest = t })
unvisited e = ap {B = Unvisited} (λ (s : ℕ). record { rest = s }) e

-- the member, and those that come after it
next-unique : (s : Unvisited) (r q : Option ℕ) (f g : Unvisited) → Visits s r f → Visits s q g → (r ≡ q) × (f ≡ g)
next-unique s None None f g e h = (refl, unvisited (one_answer e.1 h.1))
next-unique s None (Some k) f g e h = absurd (h.0 e.0)
next-unique s (Some k) None f g e h = absurd (e.0 h.0)
next-unique s (Some j) (Some k) f g e h = (ap Some (one_answer e.1 h.1), unvisited (one_answer e.2 h.2))

pub results : Results
results = record {
  refusals = record {
    number = λ self r q. one_answer;
    unless = λ ok refusal r q e f. code-one r q (one_answer e f);
    code_of = λ answer r q. one_answer;
  };
  sets = record { each = λ s r q e f. unvisited (one_answer e f); next = next-unique };
  fields = record {
    try_from = names-unique;
    Action-fits = λ self r q. one_answer;
    Transition-check = λ self steps actions r q e f. code-one r q (one_answer e f);
    Transition-passes = λ self steps actions r q. one_answer;
    Block-fits = λ self steps actions r q. one_answer;
    Case-fits = λ self steps actions r q. one_answer;
  };
  chart = record {
    empty = λ edition r q. one_answer;
    check = λ self r q e f. code-one r q (one_answer e f);
    check_whole = λ self r q e f. code-one r q (one_answer e f);
    initial_set = λ self r q. one_answer;
    action = λ self a r q. one_answer;
    transition = λ self t r q. one_answer;
    block = λ self i r q. one_answer;
    case = λ self i r q. one_answer;
    push_step = λ self initial r q. one_answer;
    push_action = λ self action r q. one_answer;
    push_transition = λ self transition r q. one_answer;
    push_block = λ self block r q. one_answer;
    push_case = λ self case r q. one_answer;
  };
  judging = record { check = λ self chart r q e f. code-one r q (one_answer e f) };
  reader = record { record_at = answer-unique; read_into = read-into-unique; read_chart = read-chart-unique };
  text = record { read_text = read-text-one };
  run = record {
    zero = λ r q. one_answer;
    belongs = λ self chart r q. one_answer;
    check = λ self chart r q e f. code-one r q (one_answer e f);
    StepCounter-ms = λ self r q. one_answer;
    StepCounter-of = λ n r q. one_answer;
    StepCounter-longer = λ self elapsed r q. one_answer;
    ActionTimer-ms = λ self r q. one_answer;
    ActionTimer-of = λ n r q. one_answer;
    ActionTimer-longer = λ self elapsed r q. one_answer;
    StepCounter-fits = λ table set n r q. one_answer;
    StepCounter-grow = λ table set elapsed n f g. one_answer;
    StepCounter-clear = λ table gone n f g. one_answer;
    ActionTimer-fits = λ table set n r q. one_answer;
    ActionTimer-grow = λ table set elapsed n f g. one_answer;
    ActionTimer-clear = λ table gone n f g. one_answer;
  };
  choice = record {
    none = λ r q. one_answer;
    choose_one = λ edition choice t transition counters active signals r q. one_answer;
    Reason-number = λ self r q. one_answer;
    explain = λ chart counters active signals r q. one_answer;
    hold_all = λ n r q. one_answer;
  };
  acting = record { asks = λ step action qualifier duration counters timers steps r q. one_answer; none = λ r q. one_answer };
  index = record {
    leaving_of = λ n sources r q e f. one_answer e.0 f.0;
    index_of = index-of-unique;
    check_index = λ chart index r q e f. code-one r q (one_answer e.0 f.0);
  };
  passes = record {
    choose = λ chart run signals r q. one_answer;
    choose_from = λ chart consulted run signals r q. one_answer;
    marks_of = λ chart left signals r q. one_answer;
    ask_blocks = λ chart counters timers steps r q. one_answer;
    write_outputs = λ out chart activity f g. one_answer;
    explain = λ chart run clock inputs r q. one_answer;
  };
  cycle = record {
    Stopped-from = λ refusal r q. one_answer;
    Refusal-from = λ stopped r q. one_answer;
    ready = λ chart index run lent r q e f. code-one r q (one_answer e.0 f.0);
  };
  stepping = record {
    settle = λ outputs chart counters timers steps stored latched.
        with_it (λ (x : Acted). written (min chart.actions 32) (rests 32 chart.output) chart.value x.activity outputs)
        (acted (asked (min chart.blocks 256) (rests 64 chart.blockstep) (rests 32 chart.blockaction) chart.qualifier chart.duration (counts_of counters) (times_of timers) (all_kept steps)) stored latched);
    cycles_on = λ chart index run clocks inputs activities outputs r q f g e h.
        let u = cycles-on-unique chart index run clocks inputs activities outputs r q f.0 g.0 f.1 g.1 f.2 g.2 e h in
        (u.0, λ i. (u.1 i, u.2 i, u.3 i));
  };
  calls = record {
    start = λ chart clock outputs r q f g e h. start-unique chart clock r q outputs f g e.0 h.0 e.1 h.1;
    cycle = λ chart run clock inputs outputs r q f g e h.
        let u = cycle-unique chart run clock inputs r q f.0 g.0 outputs f.1 g.1 e.0 h.0 e.1 h.1 in
        (u.0, λ i. (u.1 i, u.2 i));
    cycle_by = λ chart index run clock inputs outputs r q f g e h.
        let u = cycle-by-unique chart index run clock inputs r q f.0 g.0 outputs f.1 g.1 e.0 h.0 e.1 h.1 in
        (u.0, λ i. (u.1 i, u.2 i));
  };
  key = record { hold = turn-unique true; release = turn-unique false };
  shift = record {
    check_lists = check-lists-unique;
    shift = λ chart run clocks inputs activities outputs r q f g e h.
        let u = shift-unique chart run clocks inputs activities outputs r q f.0 g.0 f.1 g.1 f.2 g.2 e h in
        (u.0, λ i. (u.1 i, u.2 i, u.3 i));
    shift_by = λ chart index run clocks inputs activities outputs r q f g e h.
        let u = shift-by-unique chart index run clocks inputs activities outputs r q f.0 g.0 f.1 g.1 f.2 g.2 e h in
        (u.0, λ i. (u.1 i, u.2 i, u.3 i));
  };
  trace = record { call_at = call-at-unique };
  tally = record { Unweighed-from = λ refusal r q. one_answer; tally = tally-unique; weigh = weigh-unique };
  adding = record {
    Unadded-from = λ refusal r q. one_answer;
    add_steps = λ n first second sum r q f g. add-steps-unique n first second sum f g r q;
    add = λ chart first second sum r q f g. add-unique chart first second sum f g r q;
  };
  writer = record { write_chart = write-chart-one };
  report = record {
    print_next = λ code chart trace standing line r q f g e h.
        let answer = one_answer e.0 h.0 in
        let bytes = one_answer e.1 h.1 in
        (ap (λ (p : Printed). p.length) answer, λ i. ((answer i).standing, bytes i));
  };
  weights = record { says = says-unique; list = λ text weights r q f g. list-unique text weights f g r q };
  page = record {
    page_line = λ heard chart initial weights k line r q f g e h.
        puts 512 line 0 (page_line (heard_as heard) chart.transitions chart.sources chart.targets initial weights k) r q f g e.0 h.0;
  };
}
