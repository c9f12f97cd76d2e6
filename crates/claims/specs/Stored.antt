-- Stored from set to reset (document 02, request xi): "After any sequence of accepted calls from a start, each given the run that the one before
-- returned, an action is stored exactly if some call set it and no call from that one on, itself included, reset it. Set means an active S block, or
-- an active DS block whose counter had reached its duration, the start counted as a call. Hold and both editions are included."
use Prim.Native.Nat.{ℕ, zero, suc}
use Rattle.std.proofs.Math.Bool.{Bool, ◌||◌, not}
use Rattle.std.specs.Prelude.{◌&&◌, get_or, leb, ltb, eqb}
use mathlib.Core.List.{List, [], ◌∷◌}
use Rattle.sets.specs.Loops.{some}
use Rattle.sets.specs.Sets.{has}
use Rattle.fields.specs.Fields.{R, S, DS}
use Rattle.chart.specs.declared.chart.Chart.{Chart}
use Rattle.run.specs.declared.run.Run.{Run}
use Rattle.cycle.specs.Answer.{Cycled}
use Rattle.claims.specs.Counters.{counter_in}
use Rattle.claims.specs.Runs.{Call, answer}

-- ---- what a call did to an action, by the chart's blocks and the run that the call returned

-- block b's step is active
abbrev pub block_active : Chart → Run → ℕ → Bool
block_active c r b = has r.active (get_or c.blockstep b 0)

-- its step's counter has reached its duration
abbrev pub block_reached : Chart → Run → ℕ → Bool
block_reached c r b = leb (get_or c.duration b 0) (counter_in r (get_or c.blockstep b 0))

-- "an active S block, or an active DS block whose counter had reached its duration"
abbrev pub setting : Chart → Run → ℕ → Bool
setting c r b = block_active c r b && (eqb (get_or c.qualifier b 0) S || eqb (get_or c.qualifier b 0) DS && block_reached c r b)

-- "some active step has an R block for it" (document 01)
abbrev pub resetting : Chart → Run → ℕ → Bool
resetting c r b = block_active c r b && eqb (get_or c.qualifier b 0) R

-- p holds of some block of action a
abbrev pub some_block : Chart → ℕ → (ℕ → Bool) → Bool
some_block c a p = some (λ b. p b && eqb (get_or c.blockaction b 0) a) c.blocks

-- the call that answered o was accepted and set action a, and reset it
abbrev pub set_in : Chart → Cycled → ℕ → Bool
set_in c o a = eqb o.code 0 && some_block c a (setting c o.run)

abbrev pub reset_in : Chart → Cycled → ℕ → Bool
reset_in c o a = eqb o.code 0 && some_block c a (resetting c o.run)

-- ---- the calls of a run

-- the answer to call n, as bench_run numbers them, refused ones too: call 0 is the start, which answered o, and the calls xs follow
unfoldable pub answer_to : Chart → Cycled → List Call → ℕ → Cycled
answer_to c o xs zero = o
answer_to c o [] (suc n) = o
answer_to c o (x ∷ xs) (suc n) = answer_to c (answer c o.run x) xs n

-- call n set action a, and reset it
abbrev pub set_by : Chart → Cycled → List Call → ℕ → ℕ → Bool
set_by c o xs a n = set_in c (answer_to c o xs n) a

abbrev pub reset_by : Chart → Cycled → List Call → ℕ → ℕ → Bool
reset_by c o xs a n = reset_in c (answer_to c o xs n) a

-- call j is call k or a later one: "from that one on, itself included"
abbrev pub from_on : ℕ → ℕ → Bool
from_on k j = leb k j

-- of n calls: "some call set it and no call from that one on, itself included, reset it"
abbrev pub set_since : (ℕ → Bool) → (ℕ → Bool) → ℕ → Bool
set_since set reset n = some (λ k. set k && not (some (λ j. from_on k j && reset j) n)) n

-- call k set or reset it
abbrev pub touched : (ℕ → Bool) → (ℕ → Bool) → ℕ → Bool
touched set reset k = set k || reset k

-- in other words: the last call that set or reset it did not reset it, and there was one
abbrev pub last_set : (ℕ → Bool) → (ℕ → Bool) → ℕ → Bool
last_set set reset n = some (λ k. touched set reset k && not (reset k) && not (some (λ j. ltb k j && touched set reset j) n)) n
