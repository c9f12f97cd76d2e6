-- What is proved of specs/Runs.antt.
use Rattle.std.specs.Prelude.{ℕ, Bool, true, false, cond, ◌≡◌, refl, eqb}
use Rattle.std.proofs.Common.{eqb-true}
use Rattle.std.proofs.lemmas.Bool.{eqb-false}
use Rattle.chart.specs.declared.chart.Chart.{Chart}
use Rattle.run.specs.Run.{no_run}
use Rattle.run.specs.Belongs.{own_code}
use Rattle.run.specs.declared.run.Run.{Run}
use Rattle.cycle.specs.Cycling.{refused, start_code, cycle_code, started, start_of, cycled}
use Rattle.cycle.specs.Answer.{Cycled}
use Rattle.key.specs.Turning.{mark_of, marked, turned_as}
use Rattle.claims.specs.Runs.{Cycle, Call, cycle, turn, keyed, answer}

-- what holds of an accepted cycle and of a refusal holds of every cycle
pub each-cycle : (P : Cycled → Type 0) (c : Chart) (r : Run) (x : Cycle)
    → (cycle_code c r x.clock x.lent ≡ 0 → P (cycled c r x.clock x.inputs)) → ((code : ℕ) → (code ≡ 0 → ⊥) → P (refused code r)) → P (answer c r (cycle x))
each-cycle P c r x cycles refuses = go (eqb (cycle_code c r x.clock x.lent) 0) refl
  where
    go : (b : Bool) → eqb (cycle_code c r x.clock x.lent) 0 ≡ b → P (cond b (cycled c r x.clock x.inputs) (refused (cycle_code c r x.clock x.lent) r))
    go true e = cycles (eqb-true _ 0 e)
    go false e = refuses (cycle_code c r x.clock x.lent) (eqb-false _ 0 e)

-- and with an accepted turn of the key it holds of every answer
pub each-answer : (P : Call → Cycled → Type 0) (c : Chart) (r : Run)
    → ((x : Cycle) → cycle_code c r x.clock x.lent ≡ 0 → P (cycle x) (cycled c r x.clock x.inputs))
    → ((held : Bool) → P (turn held) (keyed (turned_as 0 (marked (mark_of held) r))))
    → ((x : Call) (code : ℕ) → (code ≡ 0 → ⊥) → P x (refused code r))
    → (x : Call) → P x (answer c r x)
each-answer P c r cycles turns refuses (cycle x) = each-cycle (P (cycle x)) c r x (cycles x) (refuses (cycle x))
each-answer P c r cycles turns refuses (turn held) = go (eqb (own_code c r) 0) refl
  where
    go : (b : Bool) → eqb (own_code c r) 0 ≡ b → P (turn held) (keyed (cond b (turned_as 0 (marked (mark_of held) r)) (turned_as (own_code c r) r)))
    go true e = turns held
    go false e = refuses (turn held) (own_code c r) (eqb-false _ 0 e)

-- what holds of an accepted start and of a refusal holds of every start
pub each_start : (P : Cycled → Type 0) (c : Chart) (clock lent : ℕ) → (start_code c lent ≡ 0 → P (started c clock)) → ((code : ℕ) → (code ≡ 0 → ⊥) → P (refused code no_run))
    → P (start_of c clock lent)
each_start P c clock lent starts refuses = go (eqb (start_code c lent) 0) refl
  where
    go : (b : Bool) → eqb (start_code c lent) 0 ≡ b → P (cond b (started c clock) (refused (start_code c lent) no_run))
    go true e = starts (eqb-true _ 0 e)
    go false e = refuses (start_code c lent) (eqb-false _ 0 e)
