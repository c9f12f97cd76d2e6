-- What is proved of specs/Unique.antt.
use Rattle.std.specs.Prelude.{ℕ, ◌+◌, min, List, ◌++◌, ◌≡◌, ℤ, length}
use Rattle.std.proofs.Common.{sym, ap, ap₂, ◌∙◌}
use Rattle.sets.proofs.Unique.{one_answer}
use Rattle.reader.specs.Answer.{Reading}
use Rattle.reader.proofs.framing.Laws.{record-at-unique}
use Rattle.index.specs.Answer.{Indexed}
use Rattle.index.specs.Building.{indexed_as}
use Rattle.acting.specs.Acting.{asked, acted}
use Rattle.acting.specs.declared.Acted.{Acted}
use Rattle.run.specs.Apart.{words_of}
use Rattle.passes.specs.Outputs.{written}
use Rattle.passes.specs.Rests.{rests}
use Rattle.cycle.specs.Answer.{Cycled}
use Rattle.cycle.specs.Cycling.{start_of, cycle_of, cycle_by, outputs_after}
use Rattle.cycle.specs.Stepping.{all_kept}
use Rattle.calls.specs.Starting.{begun}
use Rattle.adding.specs.Adding.{added_as}
use Rattle.adding.specs.Answer.{Added}
use Rattle.lines.specs.Lines.{text, hex, decimal, named_line, chart_line, Puts}
use Rattle.page.specs.Page.{page_line}
use Rattle.claims.specs.Older.{Read, Tables, Listed}
use Rattle.claims.specs.Unique.{Both, Unique}

-- an answer, and what is lent with it
pub with_it : {A B : Type 0} (h : A → B) (x : A) → Both (λ (r : A) (exit : B). (r ≡ x) × (exit ≡ h r))
with_it h x r q f g e k = let same = one_answer e.0 k.0 in (same, e.1 ∙ ap h same ∙ sym k.1)

-- whatever is put, and whatever the room
pub puts : (room : ℕ) (line : List ℕ) (at : ℕ) (t : List ℕ) → Both (λ (r : ℕ) (exit : List ℕ). Puts room line at t exit r)
puts room line at t r q f g e h = (one_answer e.1 h.1, one_answer e.0 h.0)

-- a reading taken apart: the answer beside the tables, and the tables
abbrev answer_of : Reading → Read
answer_of r = let c = r.chart in record {
  code = r.code;
  place = r.place;
  steps = c.steps;
  actions = c.actions;
  transitions = c.transitions;
  blocks = c.blocks;
  cases = c.cases;
  edition = c.edition;
}

abbrev tables_of : Reading → Tables
tables_of r = let c = r.chart in (c.initial, c.output, c.value, c.sources, c.targets, c.on, c.off, c.wait, c.blockstep, c.blockaction, c.qualifier, c.duration, c.casestep, c.signal, c.expected)

pub unique : Unique
unique = record {
  sets = record {
    is-in = λ s k r q. one_answer;
    is_within = λ a b r q. one_answer;
    is-apart = λ a b r q. one_answer;
    names-below = λ s n r q. one_answer;
    joined = λ a b r q. one_answer;
    common = λ a b r q. one_answer;
    without = λ a b r q. one_answer;
    with = λ s k r q. one_answer;
    with-if = λ s k b r q. one_answer;
    is-in-mod = λ s k r q. one_answer;
    with-if-mod = λ s k b r q. one_answer;
    beyond = λ n r q. one_answer;
    without-first = λ s r q. one_answer;
    first = λ s r q. one_answer;
    size = λ s r q. one_answer;
  };
  fields = record {
    is-timed = λ qualifier r q. one_answer;
    or-else = λ a b r q. one_answer;
    unless = λ ok code r q. one_answer;
    kind_fits = λ kind before r q. one_answer;
    step_fits = λ initial r q. one_answer;
    action-fits = λ output r q. one_answer;
    transition-passes = λ steps actions sources targets on off wait r q. one_answer;
    transition-code = λ steps actions sources targets on off wait r q. one_answer;
    duration-fits = λ qualifier duration r q. one_answer;
    block-fits = λ steps actions step action qualifier duration r q. one_answer;
    case-fits = λ steps actions step signal expected r q. one_answer;
    edition-fits = λ edition r q. one_answer;
    is-second = λ edition r q. one_answer;
  };
  chart = record {
    at_most = λ n table r q. one_answer;
    index_of = λ x r q e h. one_answer e.0 h.0;
    closing-code = λ steps blocks initial blockaction qualifier r q. one_answer;
    held-code = λ steps actions transitions blocks cases initial output sources targets on off wait blockstep blockaction qualifier duration casestep signal expected edition r q. one_answer;
    chart-code = λ chart r q. one_answer;
    initial-of = λ n initial r q. one_answer;
  };
  judging = record {
    step-code = λ steps initial r q. one_answer;
    action-code = λ actions output value r q. one_answer;
    transition-code = λ steps actions transitions sources targets on off wait r q. one_answer;
    block-code = λ steps actions blocks step action qualifier duration r q. one_answer;
    case-code = λ steps actions cases step signal expected r q. one_answer;
    edition-code = λ edition byte r q. one_answer;
  };
  reader = record {
    record-at = record-at-unique;
    u16-from = λ bytes at r q. one_answer;
    u32-from = λ bytes at r q. one_answer;
    signed = λ x r q. one_answer;
    bits_of = λ v r q. one_answer;
    read-chart = λ bytes r q. one_answer;
    read-into = λ bytes r q f g e h. let same = one_answer e h in (ap answer_of same, ap tables_of same);
  };
  choice = record {
    choose_one = λ edition choice t sources targets on off wait counts active signals r q. one_answer;
    explain = λ edition n sources targets on off wait counts active signals r q. one_answer;
    hold-all = λ n r q. one_answer;
  };
  index = record {
    index_of = λ chart r q. one_answer;
    tolwaziho-index = λ held transitions sources r q f g e h.
        let same : indexed_as r f ≡ indexed_as q g = one_answer e h in
        (ap (λ (x : Indexed). x.code) same, ap (λ (x : Indexed). x.leaving) same);
    index-after = λ held n sources index r q e h. one_answer e.0 h.0;
    consulted = λ n index active r q. one_answer;
  };
  acting = record {
    asks = λ qualifier duration step action counts times steps r q. one_answer;
    put = λ asked action r x y. one_answer;
    act = λ asked stored latched r q. one_answer;
  };
  run = record {
    StepCounter-longer = λ self e r q. one_answer;
    ActionTimer-longer = λ self e r q. one_answer;
    no-run = λ r q. one_answer;
    parts-belong = λ words counts times steps actions cases r q e h. one_answer e.0 h.0;
    own_code = λ held words counts times steps actions cases r q e h. one_answer e.0 h.0;
    words-of = λ run r q. one_answer;
    put-words = λ words r q. one_answer;
    counts_of = λ counters r q e h. one_answer e.0 h.0;
    times-of = λ timers r q e h. one_answer e.0 h.0;
    run-of = λ words counts times r q. one_answer;
  };
  passes = record {
    step-time = λ hold e r q. one_answer;
    choose = λ hold edition n sources targets on off wait counts active signals r q. one_answer;
    choose-from = λ edition consulted sources targets on off wait counts active signals r q. one_answer;
    steps-of = λ active choice r q. one_answer;
    signals-of = λ inputs activity r q. one_answer;
    marks-of = λ n step signal expected left signals r q. one_answer;
    ask-blocks = λ n blockstep blockaction qualifier duration counts times steps r q. one_answer;
    write-outputs = λ outputs n output value activity r q. one_answer;
    explain = λ edition n sources targets on off wait words counts clock inputs r q. one_answer;
    keep-if = λ code reasons r q. one_answer;
    elapsed = λ last new r q. one_answer;
  };
  cycle = record {
    ready-code = λ held steps actions cases words counts times outputs r q e h. one_answer e.0 h.0;
  };
  stepping = record {
    settle = λ outputs actions output value blocks blockstep blockaction qualifier duration counts times steps stored latched.
        with_it (λ (x : Acted). written (min actions 32) (rests 32 output) value x.activity outputs)
        (acted (asked (min blocks 256) (rests 64 blockstep) (rests 32 blockaction) qualifier duration counts times (all_kept steps)) stored latched);
    cycles-on = λ lent index words counts times clocks inputs activities outputs r q. one_answer;
  };
  calls = record {
    start = λ chart clock outputs. with_it (λ (o : Cycled). outputs_after chart o outputs) (start_of chart clock (length outputs));
    cycle = λ chart run clock inputs outputs. with_it (λ (o : Cycled). outputs_after chart o outputs) (cycle_of chart run clock inputs (length outputs));
    cycle-by = λ chart index run clock inputs outputs. with_it (λ (o : Cycled). outputs_after chart o outputs) (cycle_by chart index run clock inputs (length outputs));
    start-on = λ lent clock outputs r q f g e h.
        let same : ◌≡◌ {A = Cycled × List ℤ} (begun r, f) (begun q, g) = one_answer e h in
        (ap (λ (p : Cycled × List ℤ). record { code = p.0.code; words = words_of p.0.run }) same, ap (λ (p : Cycled × List ℤ). p.1) same);
  };
  key = record {
    hold = λ chart run r q. one_answer;
    release = λ chart run r q. one_answer;
    turn = λ held lent run r q. one_answer;
  };
  shift = record {
    lists-code = λ clocks inputs words r q. one_answer;
    clocks-taken = λ code clocks r q e h. one_answer e.0 h.0;
    shift = λ chart run clocks inputs words outputs r q. one_answer;
    shift-by = λ chart index run clocks inputs words outputs r q. one_answer;
  };
  trace = record {
    call-at = λ trace at r q e h. one_answer e.0 h.0;
  };
  tally = record {
    tally-on = λ lent words counts times r q. one_answer;
    tally = λ chart run r q. one_answer;
    weigh-on = λ lent weights r q. one_answer;
    weigh = λ chart weights r q. one_answer;
    weight-in = λ set weights r q. one_answer;
  };
  adding = record {
    add-after = λ held n first second sum r q f g e h. (one_answer e.0 h.0, one_answer e.1 h.1);
    add = λ chart first second sum r q f g e h. (one_answer e.0 h.0, one_answer e.1 h.1);
    tolwaziho-add = λ held steps first second sum r q f g e h.
        let same : added_as r.0 r.1 ≡ added_as q.0 q.1 = one_answer e.0 h.0 in
        (ap₂ (λ (x y : ℕ). (x, y)) (ap (λ (x : Added). x.code) same) (ap (λ (x : Added). x.step) same), one_answer e.1 h.1);
  };
  writer = record {
    write-on = λ lent bytes r q. one_answer;
    write-chart = λ chart bytes r q. one_answer;
  };
  report = record {
    opening = λ r q. one_answer;
    print-next = λ code chart trace standing line r q f g e h. (one_answer e.0 h.0, one_answer e.1 h.1);
  };
  lines = record {
    digit = λ n r q. one_answer;
    put = λ line at bytes. puts (length bytes) line at bytes;
    put-decimal = λ line at n. puts 20 line at (decimal n);
    put_word = λ line at k n. puts (k + 1) line at (text " " ++ hex k n);
    put-named = λ line at name n. puts (length name + 20) line at (name ++ decimal n);
    put-line = λ line at name n. puts (length name + 21) line at (named_line name n);
    chart-line = λ line at code. puts 35 line at (chart_line code);
  };
  weights = record {
    says = λ line r q. one_answer;
    list = λ text weights r q f g e h.
        (ap₂ {C = Listed} (λ (x y : ℕ). record { fault = x; count = y }) (one_answer e.0 h.0) (one_answer e.1.1 h.1.1), one_answer e.1.0 h.1.0);
  };
  page = record {
    page-line = λ heard n sources targets initial weights k line r q f g e h. puts 512 line 0 (page_line heard n sources targets initial weights k) r q f g e.0 h.0;
  };
}
