-- What an entry leaves with its caller, each part where it was lent, by the answers that documents 01 and 02 define.
use Rattle.std.specs.Prelude.{ℕ, List, ◌≡◌}
use Rattle.chart.specs.declared.chart.Chart.{Chart}
use Rattle.reader.specs.Answer.{Next}
use Rattle.reader.specs.Answer.{Record, End, Refused}
use Rattle.reader.specs.Answer.{Reading}
use Rattle.records.specs.Asking.{Finds}
use Rattle.tally.specs.Answer.{Tallied}
use Rattle.tally.specs.Answer.{Weighed}
use Rattle.writer.specs.Answer.{Writing}

-- ---- answers by their numbers

abbrev pub read_as : ℕ → ℕ → Chart → Reading
read_as code place chart = record { code = code; place = place; chart = chart }

abbrev pub written_as : ℕ → ℕ → Writing
written_as code length = record { code = code; length = length }

abbrev pub tallied_as : ℕ → ℕ → ℕ → ℕ → Tallied
tallied_as code passed failed notrun = record { code = code; passed = passed; failed = failed; notrun = notrun }

abbrev pub weighed_as : ℕ → ℕ → ℕ → Weighed
weighed_as code transition total = record { code = code; transition = transition; total = total }

-- ---- the record step's answer spelled out: zeros for the end, and for what a refusal has not

pub record Told : Type 0 where
  pub code : ℕ
  pub kind : ℕ
  pub place : ℕ
  pub length : ℕ

abbrev pub told_of : Next → Told
told_of (Record k p n) = record { code = 0; kind = k; place = p; length = n }
told_of End = record { code = 0; kind = 0; place = 0; length = 0 }
told_of (Refused n p) = record { code = n; kind = 0; place = p; length = 0 }

-- what is told of the record at a place, and where the next question goes: as the reader that is taken by itself answers
pub record Tells (code kind place length next kept : ℕ) (s : List ℕ) (at before : ℕ) : Type 0 where
  pub answer : Next
  pub finds : Finds (record { answer = answer; at = next; before = kept }) s at before
  pub told : record { code = code; kind = kind; place = place; length = length } ≡ told_of answer
