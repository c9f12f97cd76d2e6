-- An index of leaving transitions (document 02, request ix): "Beside the chart keep, for every step, the set of transitions that have it as a source,
-- built once after reading. A cycle that consults only transitions leaving some active step takes the same ones, in both editions, and gives the same
-- answer throughout. Refusals: 20 when it is not exactly the index of this chart, 0 beyond the last step, tested after the chart and before 12;
-- building tests the chart and refused gives all zeros."
use Rattle.std.specs.Prelude.{ℕ, ◌≤◌, ◌<◌, Bool, true, false, ◌&&◌, List, [], ◌∷◌, ◌++◌, ◌≡◌, ℤ, length, get_or, replicate, ltb, ◌^◌}
use Rattle.sets.specs.Loops.{some}
use Rattle.sets.specs.Sets.{has, Within}
use Rattle.chart.specs.Held.{chart_code}
use Rattle.chart.specs.declared.chart.Chart.{Chart}
use Rattle.index.specs.Building.{indexed_as, built_of}
use Rattle.index.specs.Answer.{Indexed}
use Rattle.run.specs.declared.run.Run.{Run}
use Rattle.choice.specs.Choice.{chosen_from, held}
use Rattle.cycle.specs.Cycling.{refused, choice_of, why_in, cycle_of, cycle_by}
use Rattle.shift.specs.Shifting.{shift_of, shift_by}
use Rattle.claims.specs.Answers.{one_of, chart_numbers, start_numbers}
use Rattle.claims.specs.Shifts.{turned_away}
use Rattle.index.specs.Consulting.{consulted}

-- ---- what is claimed

-- "tested after the chart and before 12"
abbrev pub cycle_by_numbers : List ℕ
cycle_by_numbers = start_numbers ++ (20 ∷ 12 ∷ 11 ∷ [])

abbrev pub shift_by_numbers : List ℕ
shift_by_numbers = start_numbers ++ (20 ∷ 12 ∷ 18 ∷ 11 ∷ [])

-- building answers o
pub record IndexAnswer (c : Chart) (o : Indexed) : Type 0 where
  pub numbered : one_of (0 ∷ chart_numbers) o.code ≡ true
  pub bad-chart : (chart_code c ≡ 0 → ⊥) → o ≡ indexed_as (chart_code c) (replicate 64 0)
  pub accepted : chart_code c ≡ 0 → o.code ≡ 0
  pub words : length o.leaving ≡ 64
  pub each_word : chart_code c ≡ 0 → (k t : ℕ) → k < 64 → t < 64 → has (get_or o.leaving k 0) t ≡ (ltb t c.transitions && has (get_or c.sources t 0) k)
  pub beyond : chart_code c ≡ 0 → (k : ℕ) → c.steps ≤ k → k < 64 → get_or o.leaving k 0 ≡ 0

-- "the same answer throughout": with the chart's index, and without one, in both editions and held or not, whatever else is handed in
pub record SameAnswers (c : Chart) : Type 0 where
  pub cycle : (r : Run) (clock inputs lent : ℕ) → cycle_by c (built_of c).leaving r clock inputs lent ≡ cycle_of c r clock inputs lent
  pub shift : (r : Run) (clocks inputs words : List ℕ) (out : List ℤ) → shift_by c (built_of c).leaving r clocks inputs words out ≡ shift_of c r clocks inputs words out
  pub cycle-without : (r : Run) (clock inputs lent : ℕ) → cycle_by c [] r clock inputs lent ≡ cycle_of c r clock inputs lent
  pub shift-without : (r : Run) (clocks inputs words : List ℕ) (out : List ℤ) → shift_by c [] r clocks inputs words out ≡ shift_of c r clocks inputs words out

-- and what is answered with an index of 64 words that may be any
pub record IndexedAnswers (c : Chart) (index : List ℕ) (r : Run) (out : List ℤ) : Type 0 where
  pub numbered : (clock inputs : ℕ) → one_of (0 ∷ cycle_by_numbers) (cycle_by c index r clock inputs (length out)).code ≡ true
  pub few-outputs : length out < 32 → (clock inputs : ℕ) → cycle_by c index r clock inputs (length out) ≡ refused 15 r
  pub bad-chart : 32 ≤ length out → (chart_code c ≡ 0 → ⊥) → (clock inputs : ℕ) → cycle_by c index r clock inputs (length out) ≡ refused (chart_code c) r
  pub other-index : 32 ≤ length out → chart_code c ≡ 0 → (index ≡ (built_of c).leaving → ⊥) → (clock inputs : ℕ) → cycle_by c index r clock inputs (length out) ≡ refused 20 r
  pub shift-numbered : (clocks inputs words : List ℕ) → one_of (0 ∷ shift_by_numbers) (shift_by c index r clocks inputs words out).0.code ≡ true
  pub shift-few-outputs : length out < 32 → (clocks inputs words : List ℕ) → shift_by c index r clocks inputs words out ≡ turned_away c r clocks inputs words out 15
  pub shift-bad-chart : 32 ≤ length out → (chart_code c ≡ 0 → ⊥) → (clocks inputs words : List ℕ) → shift_by c index r clocks inputs words out ≡ turned_away c r clocks inputs words out (chart_code c)
  pub shift-other-index : 32 ≤ length out → chart_code c ≡ 0 → (index ≡ (built_of c).leaving → ⊥) → (clocks inputs words : List ℕ)
      → shift_by c index r clocks inputs words out ≡ turned_away c r clocks inputs words out 20

-- a transition leaves some active step
abbrev pub leaves_some : Chart → ℕ → ℕ → Bool
leaves_some c active t = some (λ k. has active k && has (get_or c.sources t 0) k) 64

-- what is consulted in a cycle of an accepted chart, and that it is enough: the others have reason 1
pub record Consulted (c : Chart) (r : Run) (set : ℕ) : Type 0 where
  pub only : (t : ℕ) → t < 64 → has set t ≡ true → t < c.transitions
  pub leaves : (t : ℕ) → t < c.transitions → has set t ≡ leaves_some c r.active t
  pub not-active : (t : ℕ) → t < c.transitions → has set t ≡ false → Within (get_or c.sources t 0) r.active ≡ false
  pub waits : (t : ℕ) → t < c.transitions → has set t ≡ false → held r.hold ≡ false → (clock inputs : ℕ) → get_or (why_in c r clock inputs) t 0 ≡ 1
  pub takes-the-same : held r.hold ≡ false → (counts : List ℕ) (signals : ℕ)
      → chosen_from c.edition set c.sources c.targets c.on c.off c.wait counts r.active signals ≡ choice_of c r counts signals

-- of an accepted chart whose sets of sources are words, as they are in the memory of every caller
abbrev pub ConsultedEnough : Type 0
ConsultedEnough =
    (c : Chart) (r : Run) → chart_code c ≡ 0 → ((t : ℕ) → t < c.transitions → get_or c.sources t 0 < 2 ^ 64)
    → Consulted c r (consulted c.transitions (built_of c).leaving r.active)
