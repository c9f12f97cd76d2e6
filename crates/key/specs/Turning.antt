-- Document 02, request (vii): "The run record gets a hold mark, with one call to set it and one to clear it. .. setting and clearing test chart, then
-- 12, and refused return the run as given."
use Rattle.std.specs.Prelude.{ℕ, Bool, cond, eqb}
use Rattle.chart.specs.declared.chart.Chart.{Chart}
use Rattle.run.specs.Belongs.{own_code}
use Rattle.run.specs.declared.run.Run.{Run}
use Rattle.key.specs.Answer.{Turned}

-- "the mark .. must be 0 or 1": 1 is hold
abbrev pub mark_of : Bool → ℕ
mark_of held = cond held 1 0

-- the run with this mark, and nothing else changed
abbrev pub marked : ℕ → Run → Run
marked hold r = record {
  clock = r.clock;
  active = r.active;
  activity = r.activity;
  stored = r.stored;
  latched = r.latched;
  counters = r.counters;
  timers = r.timers;
  good = r.good;
  bad = r.bad;
  hold = hold;
}

abbrev pub turned_as : ℕ → Run → Turned
turned_as code run = record { code = code; run = run }

-- the key turned to hold, or back
abbrev pub turn_of : Bool → Chart → Run → Turned
turn_of held c r = cond (eqb (own_code c r) 0) (turned_as 0 (marked (mark_of held) r)) (turned_as (own_code c r) r)
