-- Answers of forms on lent tables that the parts had; what is claimed of them stays.
use Rattle.std.specs.Prelude.{ℕ, List, ℤ}
use Rattle.chart.specs.Chart.{chart_of}
use Rattle.reader.specs.Answer.{Reading}
use Rattle.trace.specs.Answer.{Call, Start, Cycle, End, Refused}

-- what a reading answered beside the tables: its number, its place, the counts and the edition
pub record Read : Type 0 where
  pub code : ℕ
  pub place : ℕ
  pub steps : ℕ
  pub actions : ℕ
  pub transitions : ℕ
  pub blocks : ℕ
  pub cases : ℕ
  pub edition : ℕ

-- the tables that are lent to a reading, in the order of the chart's fields
abbrev pub Tables : Type 0
Tables =
    List ℕ × List ℕ × List ℤ × List ℕ × List ℕ × List ℕ × List ℕ × List ℕ × List ℕ × List ℕ × List ℕ × List ℕ × List ℕ × List ℕ × List ℕ

-- a reading into lent tables: its answer, and the chart that they hold
abbrev pub reading_of : Read → Tables → Reading
reading_of r (initial, output, value, sources, targets, on, off, wait, blockstep, blockaction, qualifier, duration, casestep, signal, expected) = record {
  code = r.code;
  place = r.place;
  chart = chart_of r.steps r.actions r.transitions r.blocks r.cases initial output value sources targets on off wait blockstep blockaction qualifier duration casestep signal expected r.edition;
}

-- document 01's number for each case of the answer; a start carries its clock, a cycle its clock and inputs
abbrev pub number_of : Call → ℕ
number_of (Start clock) = 0
number_of (Cycle clock inputs) = 0
number_of End = 0
number_of Refused = 16

-- the number of the first faulty line, from 1 on, 0 if there is none; and how many weights were kept
pub record Listed : Type 0 where
  pub fault : ℕ
  pub count : ℕ
