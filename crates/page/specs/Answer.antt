-- What the program heard, with the numbers of the definitions; and what it hears, as that.
use Rattle.std.specs.Prelude.{ℕ, ◌+◌, min, Option, Some, None}
use Rattle.tally.specs.Answer.{Weighed}
use Rattle.page.specs.declared.page.Weighed.{Weighed as Answered}
use Rattle.page.specs.declared.page.Heard.{Heard as Told}

-- the number of the chart's reading, how long the text of the weights is, its first faulty line, from 1 on, 0 if there is none, and what the weighing answered
pub record Heard : Type 0 where
  pub code : ℕ
  pub length : ℕ
  pub fault : ℕ
  pub weighed : Weighed

-- the number of the line at a place; 64 bits hold that of every line that there can be
abbrev pub line_number : Option ℕ → ℕ
line_number None = 0
line_number (Some k) = min (k + 1) 18446744073709551615

abbrev pub weighed_as : Answered → Weighed
weighed_as w = record { code = w.code; transition = w.transition; total = w.total }

abbrev pub heard_as : Told → Heard
heard_as h = record { code = h.code; length = h.length; fault = line_number h.fault; weighed = weighed_as h.weighed }
