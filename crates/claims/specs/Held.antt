-- The hold key (document 02, request vii): what a cycle under hold does, and what the mark is to a run.
use Prim.Native.Nat.{ℕ, ◌≤◌, ◌<◌}
use Rattle.std.specs.Prelude.{true, ◌≡◌, false}
use Rattle.std.proofs.Math.ListN.{get_or}
use Rattle.sets.specs.Sets.{has}
use Rattle.chart.specs.declared.chart.Chart.{Chart}
use Rattle.acting.specs.declared.Steps.{Steps}
use Rattle.acting.specs.declared.Acted.{Acted}
use Rattle.run.specs.Run.{counter, timer}
use Rattle.run.specs.Apart.{counts_of}
use Rattle.run.specs.declared.run.Run.{Run}
use Rattle.passes.specs.Time.{elapsed, grown_time}
use Rattle.cycle.specs.Cycling.{acted_on, times_at}
use Rattle.cycle.specs.Answer.{Cycled}
use Rattle.claims.specs.Runs.{Cycle}
use Rattle.run.specs.Belongs.{belongs}

-- "nothing entered or left": the steps that are active, all with their counters
abbrev pub standing : Run → Steps
standing r = record { active = r.active; entered = 0; left = 0; kept = r.active }

-- what the actions of a run are
abbrev pub actions_of : Run → Acted
actions_of r = record { stored = r.stored; latched = r.latched; activity = r.activity }

-- a cycle x from the run r answers o: "In a cycle under hold no transition is taken and step counters stand still, while action timers run on. Actions
-- and outputs are worked out as usual, with nothing entered or left." "reason 7 .. is "hold" and comes first"
pub record HeldCycle (c : Chart) (r : Run) (x : Cycle) (o : Cycled) : Type 0 where
  pub takes_none : o.taken ≡ 0
  pub why : (t : ℕ) → t < c.transitions → get_or o.reasons t 0 ≡ 7
  pub beyond : (t : ℕ) → c.transitions ≤ t → t < 64 → get_or o.reasons t 0 ≡ 0
  pub active : (k : ℕ) → k < 64 → has o.run.active k ≡ has r.active k
  pub counters : (k : ℕ) → k < 64 → get_or o.run.counters k (counter 0) ≡ get_or r.counters k (counter 0)
  pub timers : (k : ℕ) → k < 32 → has o.run.latched k ≡ true → (get_or o.run.timers k (timer 0)).0 ≡ grown_time r.latched (elapsed r.clock x.clock) k (get_or r.timers k (timer 0))
  pub actions : actions_of o.run ≡ acted_on c (counts_of r.counters) (times_at r x.clock) (standing r) r.stored r.latched
  pub good : (i : ℕ) → i < c.cases → has o.run.good i ≡ has r.good i
  pub bad : (i : ℕ) → i < c.cases → has o.run.bad i ≡ has r.bad i
  pub clock : o.run.clock ≡ x.clock
  pub mark : o.run.hold ≡ r.hold

-- "12 covers the mark too, which must be 0 or 1"
abbrev pub OtherMark : Type 0
OtherMark = (c : Chart) (r : Run) → 1 < r.hold → belongs c r ≡ false
