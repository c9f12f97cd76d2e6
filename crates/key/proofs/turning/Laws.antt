-- A run that the key leaves belongs to the chart, if it was given one that does.
use mathlib.Core.Bool.{Bool, true, false, cond}
use mathlib.Core.Path.{◌≡◌, refl}
use lib.Dec.{eqb, leb}
use Rattle.chart.specs.declared.chart.Chart.{Chart}
use Rattle.run.specs.Belongs.{belongs, own_code}
use Rattle.run.specs.declared.run.Run.{Run}
use Rattle.run.proofs.belongs.Laws.{Own, own, is-own}
use Rattle.key.specs.Turning.{mark_of, marked, turned_as, turn_of}

-- accepted or refused, the key answers with a run that belongs to the chart, if it was given one
mark-fits : (held : Bool) → leb (mark_of held) 1 ≡ true
mark-fits true = refl
mark-fits false = refl

pub key-keeps : (held : Bool) (c : Chart) (r : Run) → belongs c r ≡ true → belongs c (turn_of held c r).run ≡ true
key-keeps held c r h = go (eqb (own_code c r) 0)
  where
    o : Own c r
    o = own c r h

    go : (b : Bool) → belongs c (cond b (turned_as 0 (marked (mark_of held) r)) (turned_as (own_code c r) r)).run ≡ true
    go true = is-own c (marked (mark_of held) r) (record {
      active = o.active;
      activity = o.activity;
      stored = o.stored;
      latched = o.latched;
      good = o.good;
      bad = o.bad;
      counters = o.counters;
      timers = o.timers;
      hold = mark-fits held;
    })
    go false = h
