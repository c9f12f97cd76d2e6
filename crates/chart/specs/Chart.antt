-- The chart of lent tables, the all-zero chart, and a chart with one more record.
use Rattle.std.specs.Prelude.{ℕ, ◌+◌, List, ℤ, pos, set, replicate}
use Rattle.chart.specs.declared.chart.Chart.{Chart}

-- the chart of lent tables
abbrev pub chart_of : ℕ → ℕ → ℕ → ℕ → ℕ → List ℕ → List ℕ → List ℤ → List ℕ → List ℕ → List ℕ → List ℕ → List ℕ → List ℕ → List ℕ → List ℕ → List ℕ → List ℕ → List ℕ → List ℕ → ℕ → Chart
chart_of steps actions transitions blocks cases initial output value sources targets on off wait blockstep blockaction qualifier duration casestep signal expected edition = record {
  steps = steps;
  actions = actions;
  transitions = transitions;
  blocks = blocks;
  cases = cases;
  initial = initial;
  output = output;
  value = value;
  sources = sources;
  targets = targets;
  on = on;
  off = off;
  wait = wait;
  blockstep = blockstep;
  blockaction = blockaction;
  qualifier = qualifier;
  duration = duration;
  casestep = casestep;
  signal = signal;
  expected = expected;
  edition = edition;
}

-- of no record, in an edition: what reading begins with, "absent means edition 1" (document 02, request viii)
abbrev pub empty_chart : ℕ → Chart
empty_chart edition = record {
  steps = 0;
  actions = 0;
  transitions = 0;
  blocks = 0;
  cases = 0;
  initial = replicate 64 0;
  output = replicate 32 0;
  value = replicate 32 (pos 0);
  sources = replicate 64 0;
  targets = replicate 64 0;
  on = replicate 64 0;
  off = replicate 64 0;
  wait = replicate 64 0;
  blockstep = replicate 256 0;
  blockaction = replicate 256 0;
  qualifier = replicate 256 0;
  duration = replicate 256 0;
  casestep = replicate 64 0;
  signal = replicate 64 0;
  expected = replicate 64 0;
  edition = edition;
}

abbrev pub no_chart : Chart
no_chart = empty_chart 0

abbrev pub with_step : Chart → ℕ → Chart
with_step c initial = record {
  steps = c.steps + 1;
  actions = c.actions;
  transitions = c.transitions;
  blocks = c.blocks;
  cases = c.cases;
  initial = set c.initial c.steps initial;
  output = c.output;
  value = c.value;
  sources = c.sources;
  targets = c.targets;
  on = c.on;
  off = c.off;
  wait = c.wait;
  blockstep = c.blockstep;
  blockaction = c.blockaction;
  qualifier = c.qualifier;
  duration = c.duration;
  casestep = c.casestep;
  signal = c.signal;
  expected = c.expected;
  edition = c.edition;
}

abbrev pub with_action : Chart → ℕ → ℤ → Chart
with_action c output value = record {
  steps = c.steps;
  actions = c.actions + 1;
  transitions = c.transitions;
  blocks = c.blocks;
  cases = c.cases;
  initial = c.initial;
  output = set c.output c.actions output;
  value = set c.value c.actions value;
  sources = c.sources;
  targets = c.targets;
  on = c.on;
  off = c.off;
  wait = c.wait;
  blockstep = c.blockstep;
  blockaction = c.blockaction;
  qualifier = c.qualifier;
  duration = c.duration;
  casestep = c.casestep;
  signal = c.signal;
  expected = c.expected;
  edition = c.edition;
}

abbrev pub with_transition : Chart → ℕ → ℕ → ℕ → ℕ → ℕ → Chart
with_transition c sources targets on off wait = record {
  steps = c.steps;
  actions = c.actions;
  transitions = c.transitions + 1;
  blocks = c.blocks;
  cases = c.cases;
  initial = c.initial;
  output = c.output;
  value = c.value;
  sources = set c.sources c.transitions sources;
  targets = set c.targets c.transitions targets;
  on = set c.on c.transitions on;
  off = set c.off c.transitions off;
  wait = set c.wait c.transitions wait;
  blockstep = c.blockstep;
  blockaction = c.blockaction;
  qualifier = c.qualifier;
  duration = c.duration;
  casestep = c.casestep;
  signal = c.signal;
  expected = c.expected;
  edition = c.edition;
}

abbrev pub with_block : Chart → ℕ → ℕ → ℕ → ℕ → Chart
with_block c step action qualifier duration = record {
  steps = c.steps;
  actions = c.actions;
  transitions = c.transitions;
  blocks = c.blocks + 1;
  cases = c.cases;
  initial = c.initial;
  output = c.output;
  value = c.value;
  sources = c.sources;
  targets = c.targets;
  on = c.on;
  off = c.off;
  wait = c.wait;
  blockstep = set c.blockstep c.blocks step;
  blockaction = set c.blockaction c.blocks action;
  qualifier = set c.qualifier c.blocks qualifier;
  duration = set c.duration c.blocks duration;
  casestep = c.casestep;
  signal = c.signal;
  expected = c.expected;
  edition = c.edition;
}

abbrev pub with_case : Chart → ℕ → ℕ → ℕ → Chart
with_case c step signal expected = record {
  steps = c.steps;
  actions = c.actions;
  transitions = c.transitions;
  blocks = c.blocks;
  cases = c.cases + 1;
  initial = c.initial;
  output = c.output;
  value = c.value;
  sources = c.sources;
  targets = c.targets;
  on = c.on;
  off = c.off;
  wait = c.wait;
  blockstep = c.blockstep;
  blockaction = c.blockaction;
  qualifier = c.qualifier;
  duration = c.duration;
  casestep = set c.casestep c.cases step;
  signal = set c.signal c.cases signal;
  expected = set c.expected c.cases expected;
  edition = c.edition;
}

abbrev pub with_edition : Chart → ℕ → Chart
with_edition c edition = record {
  steps = c.steps;
  actions = c.actions;
  transitions = c.transitions;
  blocks = c.blocks;
  cases = c.cases;
  initial = c.initial;
  output = c.output;
  value = c.value;
  sources = c.sources;
  targets = c.targets;
  on = c.on;
  off = c.off;
  wait = c.wait;
  blockstep = c.blockstep;
  blockaction = c.blockaction;
  qualifier = c.qualifier;
  duration = c.duration;
  casestep = c.casestep;
  signal = c.signal;
  expected = c.expected;
  edition = edition;
}
