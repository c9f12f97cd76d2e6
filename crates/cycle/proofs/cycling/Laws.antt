-- From the tests and the parts of a call to its whole answer.
use Prim.Native.Nat.{ℕ, ◌≤◌, ◌<◌}
use mathlib.Core.List.{List, ◌++◌}
use mathlib.Core.Bool.{Bool, true, cond}
use mathlib.Core.Path.{◌≡◌, refl, sym, ap, ap₂, ◌∙◌}
use lib.IntN.{ℤ}
use lib.ListN.{replicate, drop}
use native.Mathlib.Omega.{arith}
use lib.Dec.{leb, eqb}
use borrow.Author.Tests.{leb-true, le-leb, lt-leb, eq-eqb, ne_eqb}
use Rattle.sets.specs.Loops.{or_else}
use Rattle.sets.specs.Sets.{union}
use Rattle.sets.proofs.Loops.{else-zero}
use Rattle.fields.specs.Fields.{unless}
use Rattle.chart.specs.Held.{chart_code}
use Rattle.chart.specs.Initial.{initial_set}
use Rattle.chart.specs.declared.chart.Chart.{Chart}
use Rattle.chart.proofs.held.Sound.{fits}
use Rattle.choice.specs.declared.Choice.{Choice}
use Rattle.acting.specs.declared.Steps.{Steps}
use Rattle.acting.specs.declared.Acted.{Acted}
use Rattle.run.specs.Belongs.{belongs}
use Rattle.run.specs.declared.run.StepCounter.{StepCounter}
use Rattle.run.specs.declared.run.ActionTimer.{ActionTimer}
use Rattle.run.specs.declared.run.Run.{Run}
use Rattle.passes.specs.Time.{elapsed, step_time, grown_counts, grown_times}
use Rattle.passes.specs.Moving.{settled_counters, settled_timers, signals_of}
use Rattle.passes.specs.Choosing.{steps_of}
use Rattle.passes.specs.Outputs.{outputs_of}
use Rattle.cycle.specs.Stepping.{Moved, moved_on}
use Rattle.cycle.specs.Cycling.{refused, accepted, ready_code, late_code, cycle_code, acted_on, started, choice_of, marks_at, cycled, outputs_after, answered}
use Rattle.passes.specs.Explaining.{no_reasons}
use Rattle.passes.specs.declared.moving.Marks.{Marks}
use Rattle.cycle.specs.Answer.{Cycled}

-- ---- the lent outputs

pub untouched : (c : Chart) (r : Cycled) (code : ℕ) (run : Run) (out : List ℤ) → r ≡ refused code run → (code ≡ 0 → ⊥) → out ≡ outputs_after c r out
untouched c r code run out e z = rw (e, ne_eqb code 0 z)

-- ---- the number of a call, by the tests in their order

pub few : (rest lent : ℕ) → lent < 32 → 15 ≡ or_else (unless (leb 32 lent) 15) rest
few rest lent h = rw (lt-leb 32 lent h)

pub enough : (rest lent : ℕ) → 32 ≤ lent → rest ≡ or_else (unless (leb 32 lent) 15) rest
enough rest lent h = rw (le-leb 32 lent h)

pub stops : (code rest : ℕ) → (code ≡ 0 → ⊥) → code ≡ or_else code rest
stops code rest z = rw (ne_eqb code 0 z)

pub goes_on : (code rest : ℕ) → code ≡ 0 → rest ≡ or_else code rest
goes_on code rest z = rw (eq-eqb code 0 z)

pub too-late : (e : ℕ) → 60000 < e → 11 ≡ unless (leb e 60000) 11
too-late e h = rw (lt-leb e 60000 h)

pub in-time : (e : ℕ) → e ≤ 60000 → 0 ≡ unless (leb e 60000) 11
in-time e h = rw (le-leb e 60000 h)

-- an answer by its number
pub refused-by : (code n : ℕ) (x r : Cycled) (run given : Run) → n ≡ code → (n ≡ 0 → ⊥) → given ≡ run → r ≡ refused n given → r ≡ cond (eqb code 0) x (refused code run)
refused-by code n x r run given e z g h = h ∙ rw (g, ← e, ne_eqb n 0 z)

pub accepted-by : (code : ℕ) (x y r : Cycled) → 0 ≡ code → r ≡ x → r ≡ cond (eqb code 0) x y
accepted-by code x y r e h = h ∙ rw (← e)

-- what a call's answer and its outputs are, together and apart
pub together : (c : Chart) (x r : Cycled) (out after : List ℤ) → r ≡ x → after ≡ outputs_after c r out → ◌≡◌ {A = Cycled × List ℤ} (r, after) (answered c out x)
together c x r out after e f = ap₂ {C = Cycled × List ℤ} (λ (o : Cycled) (l : List ℤ). (o, l)) e (f ∙ ap (λ (o : Cycled). outputs_after c o out) e)

pub apart : (c : Chart) (x r : Cycled) (out after : List ℤ) → ◌≡◌ {A = Cycled × List ℤ} (r, after) (answered c out x) → (r ≡ x) × (after ≡ outputs_after c r out)
apart c x r out after e =
    let f : r ≡ x = ap (λ (p : Cycled × List ℤ). p.0) e in
    (f, ap (λ (p : Cycled × List ℤ). p.1) e ∙ ap (λ (o : Cycled). outputs_after c o out) (sym f))

-- a refusal by its number: the run as it was given, and the outputs untouched
pub turned-away : (c : Chart) (code n : ℕ) (x r : Cycled) (run : Run) (out : List ℤ) → n ≡ code → (n ≡ 0 → ⊥) → r ≡ refused n run
    → ◌≡◌ {A = Cycled × List ℤ} (r, out) (answered c out (cond (eqb code 0) x (refused code run)))
turned-away c code n x r run out e z h =
    together c (cond (eqb code 0) x (refused code run)) r out out (refused-by code n x r run run e z refl h) (untouched c r n run out h z)

-- what the tests tell that the clock has no part in
pub record Passed (c : Chart) (r : Run) (lent : ℕ) : Type 0 where
  pub enough : 32 ≤ lent
  pub chart : chart_code c ≡ 0
  pub run : belongs c r ≡ true

pub passed : (c : Chart) (r : Run) (lent : ℕ) → ready_code c r lent ≡ 0 → Passed c r lent
passed c r lent e =
    let x = else-zero (unless (leb 32 lent) 15) _ e in
    let y = else-zero (chart_code c) _ x.1 in
    record {
      enough = leb-true 32 lent (fits (leb 32 lent) 15 (λ z. omega arith) x.0);
      chart = y.0;
      run = fits (belongs c r) 12 (λ z. omega arith) y.1;
    }

-- a cycle that its tests accept passed them
pub cycle-passed : (c : Chart) (r : Run) (clock lent : ℕ) → cycle_code c r clock lent ≡ 0 → Passed c r lent
cycle-passed c r clock lent e = passed c r lent (else-zero (ready_code c r lent) (late_code r clock) e).0

pub is-ready : (c : Chart) (r : Run) (lent : ℕ) → Passed c r lent → ready_code c r lent ≡ 0
is-ready c r lent p =
    let own : ℕ = unless (belongs c r) 12 in
    sym (goes_on (chart_code c) own p.chart ∙ enough (or_else (chart_code c) own) lent p.enough) ∙ ap (λ (b : Bool). unless b 12) p.run

-- ---- the parts of an accepted start

pub started-as : (c : Chart) (clock i : ℕ) (x : Acted) (cs : List StepCounter) (ts : List ActionTimer)
    → i ≡ initial_set c.steps c.initial
    → x ≡ acted_on c (replicate 64 0) (replicate 32 0) (record { active = i; entered = i; left = 0; kept = 0 }) 0 0
    → cs ≡ settled_counters (replicate 64 0) 0
    → ts ≡ settled_timers (replicate 32 0) x.latched
    → accepted 0 no_reasons (record { clock = clock; active = i; activity = x.activity; stored = x.stored; latched = x.latched; counters = cs; timers = ts; good = 0; bad = 0; hold = 0 })
    ≡ started c clock
started-as c clock i x cs ts e f g h = rw (h, g, f, e)

-- ---- the parts of an accepted cycle

pub cycled-as : (c : Chart) (r : Run) (clock inputs e f : ℕ) (counts times : List ℕ) (signals : ℕ) (ch : Choice) (st : Steps) (m : Marks) (x : Acted)
    (cs : List StepCounter) (ts : List ActionTimer) (good bad : ℕ)
    → e ≡ elapsed r.clock clock
    → f ≡ step_time r.hold e
    → counts ≡ grown_counts r.counters r.active f
    → times ≡ grown_times r.timers r.latched e
    → signals ≡ signals_of inputs r.activity
    → ch ≡ choice_of c r counts signals
    → st ≡ steps_of r.active ch
    → m ≡ marks_at c ch.left signals
    → x ≡ acted_on c counts times st r.stored r.latched
    → cs ≡ settled_counters counts st.kept
    → ts ≡ settled_timers times x.latched
    → good ≡ union r.good m.good
    → bad ≡ union r.bad m.bad
    → ◌≡◌ {A = ℕ × Run} (
      ch.taken,
      record {
        clock = clock;
        active = st.active;
        activity = x.activity;
        stored = x.stored;
        latched = x.latched;
        counters = cs;
        timers = ts;
        good = good;
        bad = bad;
        hold = r.hold;
      },
    )
    ((cycled c r clock inputs).taken, (cycled c r clock inputs).run)
cycled-as c r clock inputs e f counts times signals ch st m x cs ts good bad e₁ e₀ e₂ e₃ e₄ e₅ e₆ e₇ e₈ e₉ f₁ f₂ f₃ =
    rw (f₃, f₂, f₁, e₉, e₈, e₇, e₆, e₅, e₄, e₃, e₂, e₀, e₁)

-- and the outputs with them
pub moved_as : (c : Chart) (r : Run) (clock inputs taken : ℕ) (run : Run) (out after : List ℤ) → ◌≡◌ {A = ℕ × Run} (taken, run) ((cycled c r clock inputs).taken, (cycled c r clock inputs).run)
    → after ≡ outputs_of c.actions c.output c.value run.activity ++ drop 32 out → ◌≡◌ {A = Moved} (taken, run, after) (moved_on c r clock inputs out)
moved_as c r clock inputs taken run out after e f =
    ap {B = Moved} (λ (l : List ℤ). (taken, run, l)) f
    ∙ ap {B = Moved} (λ (p : ℕ × Run). (p.0, p.1, outputs_of c.actions c.output c.value p.1.activity ++ drop 32 out)) e
