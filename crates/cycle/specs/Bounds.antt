-- A chart as a cycle takes it that does not test it: each count no more than its table has, and each number by its rest, so that no table is
-- looked into where it has nothing. A chart that passed its test is the same in every cycle (proofs/bounds/Sound.antt).
use Rattle.std.specs.Prelude.{min}
use Rattle.passes.specs.Rests.{rests}
use Rattle.chart.specs.declared.chart.Chart.{Chart}

abbrev pub bounded : Chart → Chart
bounded c = record {
  steps = c.steps;
  actions = min c.actions 32;
  transitions = min c.transitions 64;
  blocks = min c.blocks 256;
  cases = min c.cases 64;
  initial = c.initial;
  output = rests 32 c.output;
  value = c.value;
  sources = c.sources;
  targets = c.targets;
  on = c.on;
  off = c.off;
  wait = c.wait;
  blockstep = rests 64 c.blockstep;
  blockaction = rests 32 c.blockaction;
  qualifier = c.qualifier;
  duration = c.duration;
  casestep = rests 64 c.casestep;
  signal = rests 64 c.signal;
  expected = c.expected;
  edition = c.edition;
}
