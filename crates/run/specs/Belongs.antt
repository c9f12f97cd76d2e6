-- "A run belongs to a chart if active steps, activity, stored, latched and case marks name only existing numbers; step counters of inactive
-- steps and action timers of unlatched actions are 0; none exceeds 86,400,000." Document 02, request (vii): "12 covers the mark too, which must be 0
-- or 1".
use Rattle.std.specs.Prelude.{ℕ, List, Bool, ◌&&◌, ◌||◌, get_or, leb, eqb}
use Rattle.sets.specs.Loops.{all, or_else}
use Rattle.sets.specs.Sets.{has, Below}
use Rattle.fields.specs.Fields.{unless}
use Rattle.chart.specs.Held.{chart_code}
use Rattle.chart.specs.declared.chart.Chart.{Chart}
use Rattle.run.specs.Run.{longest, counter, timer}
use Rattle.run.specs.declared.run.StepCounter.{StepCounter}
use Rattle.run.specs.declared.run.ActionTimer.{ActionTimer}
use Rattle.run.specs.declared.run.Run.{Run}

abbrev pub count_fits : ℕ → ℕ → ℕ → Bool
count_fits set k n = leb n longest && (has set k || eqb n 0)

abbrev pub counters_fit : List StepCounter → ℕ → Bool
counters_fit counters active = all (λ k. count_fits active k (get_or counters k (counter 0)).0) 64

abbrev pub timers_fit : List ActionTimer → ℕ → Bool
timers_fit timers latched = all (λ k. count_fits latched k (get_or timers k (timer 0)).0) 32

abbrev pub names_fit : ℕ → ℕ → ℕ → ℕ → ℕ → ℕ → ℕ → ℕ → ℕ → Bool
names_fit steps actions cases active activity stored latched good bad =
    Below active steps && Below activity actions && Below stored actions && Below latched actions && Below good cases && Below bad cases

abbrev pub belongs_to : ℕ → ℕ → ℕ → Run → Bool
belongs_to steps actions cases r =
    names_fit steps actions cases r.active r.activity r.stored r.latched r.good r.bad
    && counters_fit r.counters r.active && timers_fit r.timers r.latched && leb r.hold 1

abbrev pub belongs : Chart → Run → Bool
belongs c r = belongs_to c.steps c.actions c.cases r

-- the chart's number, then 12
abbrev pub own_after : ℕ → ℕ → ℕ → ℕ → Run → ℕ
own_after held steps actions cases r = or_else held (unless (belongs_to steps actions cases r) 12)

-- "the tally [tests] chart, 12"; document 02, request (vii): "setting and clearing test chart, then 12"
abbrev pub own_code : Chart → Run → ℕ
own_code c r = own_after (chart_code c) c.steps c.actions c.cases r
