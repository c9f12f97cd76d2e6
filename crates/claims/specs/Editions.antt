-- The second edition of the stepping rule (document 02, request viii): what the definitions of the choosing and of the entered steps come to in each
-- edition, and the numbers. Demand 3 in both is in Ledger, Weights and Shifts, the reasons in Reasons; the crate `examples` has examples.
use Rattle.std.specs.Prelude.{ℕ, ◌≤◌, ◌<◌, Bool, true, false, ◌&&◌, ◌||◌, not, ◌⊎◌, ◌≡◌, get_or}
use Rattle.sets.specs.Loops.{some}
use Rattle.sets.specs.Sets.{has}
use Rattle.chart.specs.Held.{limits_fit, steps_code, actions_code, transitions_code, blocks_code, cases_code, chart_code}
use Rattle.chart.specs.declared.chart.Chart.{Chart}
use Rattle.reader.specs.Reading.{number_in}
use Rattle.judging.specs.declared.Body.TheVariants.{Edition}
use Rattle.choice.specs.declared.Choice.{Choice}
use Rattle.run.specs.Run.{counter}
use Rattle.run.specs.declared.run.Run.{Run}
use Rattle.passes.specs.Choosing.{entered_by}
use Rattle.cycle.specs.Cycling.{counts_at}
use Rattle.cycle.specs.Answer.{Cycled}
use Rattle.claims.specs.Runs.{Cycle}
use Rattle.claims.specs.Tally.{left_in}

-- ---- what is claimed

-- in an answer, step k is a target: a transition that it carries has k as one
abbrev pub target_in : Chart → Cycled → ℕ → Bool
target_in c o k = some (λ t. has o.taken t && has (get_or c.targets t 0) k) c.transitions

-- an answer o to the cycle x that was given the run r, accepted, in either edition: "a step both left and entered stays active"; "a step counts as
-- entered if it is a target and was inactive or left; then its counter is 0, otherwise it runs on"
pub record Stepped (c : Chart) (r : Run) (x : Cycle) (o : Cycled) : Type 0 where
  pub active : (k : ℕ) → k < 64 → has o.run.active k ≡ (has r.active k && not (left_in c o k) || target_in c o k)
  pub entered : (k : ℕ) → k < 64 → target_in c o k ≡ true → (has r.active k ≡ false) ⊎ (left_in c o k ≡ true) → get_or o.run.counters k (counter 0) ≡ counter 0
  pub runs_on : (k : ℕ) → k < 64 → has r.active k ≡ true → left_in c o k ≡ false → get_or o.run.counters k (counter 0) ≡ counter (get_or (counts_at r x.clock) k 0)

-- "Refusals: 5 for another edition byte, tested in a held chart after the cases", and so before 9 and 8; in a file, read into the chart c, "3 and 4 cover
-- the kind, limit one" (the kind and the length, 2 and 3: Answers, `record-answers`)
pub record EditionAnswer (c : Chart) : Type 0 where
  pub held : limits_fit c.steps c.actions c.transitions c.blocks c.cases ≡ true
      → steps_code c.steps c.initial ≡ 0
      → actions_code c.actions c.output ≡ 0
      → transitions_code c.transitions c.steps c.actions c.sources c.targets c.on c.off c.wait ≡ 0
      → blocks_code c.blocks c.steps c.actions c.blockstep c.blockaction c.qualifier c.duration ≡ 0
      → cases_code c.cases c.steps c.actions c.casestep c.signal c.expected ≡ 0
      → (c.edition ≡ 1 → ⊥) → (c.edition ≡ 2 → ⊥) → chart_code c ≡ 5
  pub another : (x : ℕ) → 2 ≤ c.edition → number_in c (Edition x) ≡ 4
  pub other_byte : (x : ℕ) → c.edition < 2 → (x ≡ 2 → ⊥) → number_in c (Edition x) ≡ 5
  pub accepted : c.edition < 2 → number_in c (Edition 2) ≡ 0

-- in the first edition the steps entered are the targets
abbrev pub FirstEntersTargets : Chart → Run → Choice → Type 0
FirstEntersTargets c r ch = c.edition ≡ 1 → entered_by r.active ch ≡ ch.claimed
