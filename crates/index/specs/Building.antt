-- Document 02, request (ix): "Beside the chart keep, for every step, the set of transitions that have it as a source, built once after reading. ..
-- building tests the chart and refused gives all zeros."
use Rattle.std.specs.Prelude.{ℕ, List, ◌&&◌, cond, get_or, replicate, ltb, eqb}
use Rattle.sets.specs.Loops.{table}
use Rattle.sets.specs.Sets.{has, collect, insert}
use Rattle.chart.specs.Held.{chart_code}
use Rattle.chart.specs.declared.chart.Chart.{Chart}
use Rattle.index.specs.Answer.{Indexed}

-- the transitions, of n, that have step k as a source
abbrev pub leaving_at : ℕ → List ℕ → ℕ → ℕ
leaving_at n sources k = collect (λ t. ltb t n && has (get_or sources t 0) k) 64

-- "for every step": of 64, a word for each
unfoldable pub index_of : ℕ → List ℕ → List ℕ
index_of n sources = table (leaving_at n sources) 64

abbrev pub indexed_as : ℕ → List ℕ → Indexed
indexed_as code leaving = record { code = code; leaving = leaving }

-- by the chart's number
abbrev pub built_after : ℕ → ℕ → List ℕ → Indexed
built_after held n sources = indexed_as held (cond (eqb held 0) (index_of n sources) (replicate 64 0))

abbrev pub built_of : Chart → Indexed
built_of c = built_after (chart_code c) c.transitions c.sources

-- on the way there: transition t in the words of its sources
abbrev pub entered_in : List ℕ → ℕ → ℕ → List ℕ
entered_in leaving t sources = table (λ k. cond (has sources k) (insert (get_or leaving k 0) t) (get_or leaving k 0)) 64
