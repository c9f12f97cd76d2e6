-- "Reading what was written gives the same chart as far as its counts reach": the chart that is read back; and what the types of a chart and of bytes say.
use Rattle.std.specs.Prelude.{ℕ, ◌^◌, ◌<◌, List, cond, pos, get_or, ltb}
use Rattle.std.specs.Int.{w32}
use Rattle.std.proofs.Common.{SFits}
use Rattle.sets.specs.Loops.{table}
use Rattle.chart.specs.declared.chart.Chart.{Chart}

-- the first n entries of a table, then zeros up to its limit
abbrev pub up_to : {A : Type 0} → A → ℕ → ℕ → List A → List A
up_to nought limit n l = table (λ i. cond (ltb i n) (get_or l i nought) nought) limit

-- the first so many records of each kind, and zeros beyond them, in an edition
abbrev pub first_records : ℕ → ℕ → ℕ → ℕ → ℕ → ℕ → Chart → Chart
first_records steps actions transitions blocks cases edition c = record {
  steps = steps;
  actions = actions;
  transitions = transitions;
  blocks = blocks;
  cases = cases;
  initial = up_to 0 64 steps c.initial;
  output = up_to 0 32 actions c.output;
  value = up_to (pos 0) 32 actions c.value;
  sources = up_to 0 64 transitions c.sources;
  targets = up_to 0 64 transitions c.targets;
  on = up_to 0 64 transitions c.on;
  off = up_to 0 64 transitions c.off;
  wait = up_to 0 64 transitions c.wait;
  blockstep = up_to 0 256 blocks c.blockstep;
  blockaction = up_to 0 256 blocks c.blockaction;
  qualifier = up_to 0 256 blocks c.qualifier;
  duration = up_to 0 256 blocks c.duration;
  casestep = up_to 0 64 cases c.casestep;
  signal = up_to 0 64 cases c.signal;
  expected = up_to 0 64 cases c.expected;
  edition = edition;
}

-- a chart as far as its counts reach
abbrev pub as_counted : Chart → Chart
as_counted c = first_records c.steps c.actions c.transitions c.blocks c.cases c.edition c

-- each of a string's bytes is one, as its type says
abbrev pub Bytes : List ℕ → Type 0
Bytes s = (i : ℕ) → get_or s i 0 < 256

-- a chart's sets are 64-bit words and its values signed 32-bit numbers, as their types in the source say
pub record Typed (c : Chart) : Type 0 where
  pub sources : (i : ℕ) → get_or c.sources i 0 < 2 ^ 64
  pub targets : (i : ℕ) → get_or c.targets i 0 < 2 ^ 64
  pub on : (i : ℕ) → get_or c.on i 0 < 2 ^ 64
  pub off : (i : ℕ) → get_or c.off i 0 < 2 ^ 64
  pub value : (i : ℕ) → SFits w32 (get_or c.value i (pos 0))
