-- A start where the run is to lie: its words, with counters and timers that are 0.
use Rattle.std.specs.Prelude.{ℕ, List, ℤ, length, replicate}
use Rattle.chart.specs.declared.chart.Chart.{Chart}
use Rattle.run.specs.Apart.{run_of}
use Rattle.cycle.specs.Cycling.{start_of, answered}
use Rattle.passes.specs.Explaining.{no_reasons}
use Rattle.cycle.specs.Answer.{Cycled}
use Rattle.calls.specs.Answer.{Started}

-- a start's answer with the run put together
abbrev pub begun : Started → Cycled
begun s = record { code = s.code; taken = 0; reasons = no_reasons; run = run_of s.words (replicate 64 0) (replicate 32 0) }

-- "A refused start returns an all-zero run"
abbrev pub not_begun : ℕ → Started
not_begun code = record { code = code; words = record { clock = 0; active = 0; activity = 0; stored = 0; latched = 0; good = 0; bad = 0; hold = 0 } }

abbrev pub start_on : Chart → ℕ → List ℤ → Cycled × List ℤ
start_on c clock out = answered c out (start_of c clock (length out))
