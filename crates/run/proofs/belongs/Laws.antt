-- What a run that belongs to a chart is.
use Prim.Native.Nat.{ℕ}
use mathlib.Core.Bool.{Bool, true, false, ◌&&◌}
use mathlib.Core.Path.{◌≡◌, refl}
use native.Mathlib.Omega.{arith}
use lib.Dec.{leb}
use Rattle.sets.specs.Loops.{all}
use Rattle.sets.specs.Sets.{Below, union}
use Rattle.sets.proofs.Loops.{else-zero, and-true, and_assoc}
use Rattle.sets.proofs.Members.{below_both}
use Rattle.sets.proofs.Below.{below-zero}
use Rattle.fields.specs.Fields.{unless}
use Rattle.chart.specs.Held.{chart_code}
use Rattle.chart.proofs.held.Sound.{fits}
use Rattle.chart.specs.declared.chart.Chart.{Chart}
use Rattle.run.specs.Run.{no_run}
use Rattle.run.specs.Belongs.{counters_fit, timers_fit, names_fit, belongs, own_code}
use Rattle.run.specs.declared.run.Run.{Run}

pub record Own (c : Chart) (r : Run) : Type 0 where
  pub active : Below r.active c.steps ≡ true
  pub activity : Below r.activity c.actions ≡ true
  pub stored : Below r.stored c.actions ≡ true
  pub latched : Below r.latched c.actions ≡ true
  pub good : Below r.good c.cases ≡ true
  pub bad : Below r.bad c.cases ≡ true
  pub counters : counters_fit r.counters r.active ≡ true
  pub timers : timers_fit r.timers r.latched ≡ true
  pub hold : leb r.hold 1 ≡ true

pub own : (c : Chart) (r : Run) → belongs c r ≡ true → Own c r
own c r e =
    let w = and-true _ (leb r.hold 1) e in
    let x = and-true _ (timers_fit r.timers r.latched) w.0 in
    let y = and-true _ (counters_fit r.counters r.active) x.0 in
    let a = and-true _ (Below r.bad c.cases) y.0 in
    let b = and-true _ (Below r.good c.cases) a.0 in
    let d = and-true _ (Below r.latched c.actions) b.0 in
    let f = and-true _ (Below r.stored c.actions) d.0 in
    let g = and-true (Below r.active c.steps) (Below r.activity c.actions) f.0 in
    record { active = g.0; activity = g.1; stored = f.1; latched = d.1; good = b.1; bad = a.1; counters = y.1; timers = x.1; hold = w.1 }

pub is-own : (c : Chart) (r : Run) → Own c r → belongs c r ≡ true
is-own c r o = rw (o.active, o.activity, o.stored, o.latched, o.good, o.bad, o.counters, o.timers, o.hold)

-- what the test of both has passed
pub own-tests : (c : Chart) (r : Run) → own_code c r ≡ 0 → (chart_code c ≡ 0) × (belongs c r ≡ true)
own-tests c r e =
    let z = else-zero (chart_code c) (unless (belongs c r) 12) e in
    (z.0, fits (belongs c r) 12 (λ n. omega arith) z.1)

-- the all-zero run belongs to every chart
none-counters : counters_fit no_run.counters 0 ≡ true
unfolding all
none-counters = refl

none-timers : timers_fit no_run.timers 0 ≡ true
unfolding all
none-timers = refl

pub none-own : (c : Chart) → belongs c no_run ≡ true
none-own c = is-own c no_run (record {
  active = below-zero c.steps;
  activity = below-zero c.actions;
  stored = below-zero c.actions;
  latched = below-zero c.actions;
  good = below-zero c.cases;
  bad = below-zero c.cases;
  counters = none-counters;
  timers = none-timers;
  hold = refl;
})

-- ---- sets that are tested together

pub names-joined : (steps actions cases active activity stored latched good bad : ℕ)
    → (Below active steps && Below (union (union activity stored) latched) actions && Below (union good bad) cases) ≡ names_fit steps actions cases active activity stored latched good bad
names-joined steps actions cases active activity stored latched good bad =
    rw (below_both (union activity stored) latched actions, below_both activity stored actions, below_both good bad cases)
    (go (Below active steps) (Below activity actions) (Below stored actions) (Below latched actions) (Below good cases) (Below bad cases))
  where
    go : (a b c d e f : Bool) → (a && (b && c && d) && (e && f)) ≡ (a && b && c && d && e && f)
    go true b c d e f = and_assoc (b && c && d) e f
    go false b c d e f = refl
