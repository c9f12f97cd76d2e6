-- Document 02, request (x): "Assessors build a large weighing from two small ones. Supply the sum, step by step, in a third lent list. ..
-- Refusals: chart; 13 if any of the three lengths is wrong; 21 with the first step whose sum doesn't fit, nothing written."
use Rattle.std.specs.Prelude.{ℕ, ◌+◌, ◌-◌, Bool, ◌&&◌, cond, List, length, get_or, eqb, leb}
use Rattle.sets.specs.Loops.{first_code, table}
use Rattle.fields.specs.Fields.{unless}
use Rattle.chart.specs.Held.{chart_code}
use Rattle.chart.specs.declared.chart.Chart.{Chart}
use Rattle.adding.specs.Answer.{Added}

-- "the sum, step by step": of step k
abbrev pub sum_at : List ℕ → List ℕ → ℕ → ℕ
sum_at first second k = get_or first k 0 + get_or second k 0

-- of n steps
unfoldable pub sums : ℕ → List ℕ → List ℕ → List ℕ
sums n first second = table (sum_at first second) n

abbrev pub fits_at : List ℕ → List ℕ → ℕ → Bool
fits_at first second k = leb (sum_at first second k) 65535

-- "the first step whose sum doesn't fit": one more than its number, 0 if all fit
unfoldable pub unfit : ℕ → List ℕ → List ℕ → ℕ
unfit n first second = first_code (λ k. unless (fits_at first second k) (k + 1)) n

-- not "if any of the three lengths is wrong"
abbrev pub are_long : ℕ → ℕ → ℕ → ℕ → Bool
are_long n first second lent = eqb first n && eqb second n && eqb lent n

abbrev pub added_as : ℕ → ℕ → Added
added_as code step = record { code = code; step = step }

-- "chart; 13 ..; 21", by the chart's number; the step named is 0 unless the answer is 21
abbrev pub added_after : ℕ → ℕ → List ℕ → List ℕ → ℕ → Added
added_after held n first second lent =
    cond (eqb held 0)
    (cond (are_long n (length first) (length second) lent)
    (cond (eqb (unfit n first second) 0) (added_as 0 0) (added_as 21 (unfit n first second - 1)))
    (added_as 13 0))
    (added_as held 0)

-- the third list: with any refusal "nothing written"
abbrev pub sum_after : ℕ → ℕ → List ℕ → List ℕ → List ℕ → List ℕ
sum_after held n first second sum =
    cond (eqb (added_after held n first second (length sum)).code 0) (sums n first second) sum

abbrev pub add_of : Chart → List ℕ → List ℕ → ℕ → Added
add_of c first second lent = added_after (chart_code c) c.steps first second lent

abbrev pub sum_of : Chart → List ℕ → List ℕ → List ℕ → List ℕ
sum_of c first second sum = sum_after (chart_code c) c.steps first second sum
