-- The answers of documents 01 and 02, with their numbers; and what the code answers, as those.
use Rattle.std.specs.Prelude.{ℕ, Option, Some, None, Result, Ok, Err}
use Rattle.chart.specs.Chart.{no_chart}
use Rattle.chart.specs.declared.chart.Chart.{Chart}
use Rattle.refusals.specs.Refusals.{number}
use Rattle.reader.specs.declared.framing.Fault.{Fault}
use Rattle.reader.specs.declared.framing.Record.{Record as Standing}

-- "answers the kind with its body's place and length, or the end, or the refusal with the record's place"
pub data Next : Type 0 where
  Record : (kind place length : ℕ) → Next
  End : Next
  Refused : (code place : ℕ) → Next

abbrev pub next_of : Result (Option Standing) Fault → Next
next_of (Ok (Some r)) = Record r.kind r.place r.length
next_of (Ok None) = End
next_of (Err e) = Refused (number e.refusal) e.place

-- a reading: its number, its place, and the chart
pub record Reading : Type 0 where
  pub code : ℕ
  pub place : ℕ
  pub chart : Chart

-- "an accepted chart has place 0"; of a reading into a lent chart, and of one by value
abbrev pub reading_in : {A : Type 0} → Result A Fault → Chart → Reading
reading_in (Ok x) c = record { code = 0; place = 0; chart = c }
reading_in (Err e) c = record { code = number e.refusal; place = e.place; chart = c }

abbrev pub reading_of : Result Chart Fault → Reading
reading_of (Ok c) = record { code = 0; place = 0; chart = c }
reading_of (Err e) = record { code = number e.refusal; place = e.place; chart = no_chart }
