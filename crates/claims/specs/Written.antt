-- Charts written back (document 02, request i): "Write a held chart into lent bytes in the form of document 01. Reading what was written gives the
-- same chart as far as its counts reach, and writing what was read gives the same bytes. The answer is the length written; bytes behind it stay.
-- Refusals: the chart's own first, then 17 when the lent bytes are fewer than the chart's length, nothing written."
use Rattle.std.specs.Prelude.{ℕ, ◌+◌, ◌-◌, ◌*◌, ◌≤◌, ◌<◌, true, List, [], ◌∷◌, ◌++◌, ◌≡◌, length, take, drop}
use Rattle.chart.specs.Held.{chart_code}
use Rattle.chart.specs.declared.chart.Chart.{Chart}
use Rattle.reader.specs.Reading.{accepted, read_chart}
use Rattle.writer.specs.Writing.{file_of, write_chart}
use Rattle.writer.specs.Back.{as_counted, Typed}
use Rattle.writer.specs.Answer.{Writing}
use Rattle.claims.specs.Answers.{one_of, chart_numbers}

-- ---- the answer

-- the chart's own, then 17
abbrev pub writing_numbers : List ℕ
writing_numbers = chart_numbers ++ (17 ∷ [])

-- a writing of the chart c answers o, and leaves `exit` where `lent` was lent
pub record WritingAnswer (c : Chart) (lent : List ℕ) (o : Writing) (exit : List ℕ) : Type 0 where
  pub numbered : one_of (0 ∷ writing_numbers) o.code ≡ true
  pub bad-chart : (chart_code c ≡ 0 → ⊥) → o.code ≡ chart_code c
  pub few_bytes : chart_code c ≡ 0 → length lent < length (file_of c) → o.code ≡ 17
  pub accepted : chart_code c ≡ 0 → length (file_of c) ≤ length lent → o.code ≡ 0
  pub no_length : (o.code ≡ 0 → ⊥) → o.length ≡ 0
  pub untouched : (o.code ≡ 0 → ⊥) → exit ≡ lent
  pub long : o.code ≡ 0 → o.length ≡ 5 * c.steps + 9 * c.actions + 40 * c.transitions + 11 * c.blocks + 7 * c.cases + 5 * (c.edition - 1) + 4
  pub writes : o.code ≡ 0 → take o.length exit ≡ file_of c
  pub no-others : o.code ≡ 0 → drop o.length exit ≡ drop o.length lent

-- "Reading what was written gives the same chart as far as its counts reach", with zeros beyond them
abbrev pub ReadBack : Chart → List ℕ → Type 0
ReadBack c lent =
    Typed c → (write_chart c lent).0.code ≡ 0
    → read_chart (take (write_chart c lent).0.length (write_chart c lent).1) ≡ accepted (as_counted c)
