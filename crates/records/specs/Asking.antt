-- "A manufacturer's tool may take the reader by itself and ask it for the next record".
use Rattle.std.specs.Prelude.{ℕ, List, ◌≡◌}
use Rattle.std.specs.Borrow.{Bor}
use Rattle.reader.specs.Framing.{Answers, place_after, kind_after}
use Rattle.reader.specs.Answer.{Next}
use Rattle.records.specs.Answer.{Found}
use Rattle.records.specs.declared.Records.{Records}

-- what stands at a place, and where the next question goes: "After the end or a refusal it doesn't move"
pub record Finds (r : Found) (s : List ℕ) (at before : ℕ) : Type 0 where
  pub answer : Answers r.answer s at before
  pub place : r.at ≡ place_after r.answer at
  pub kind : r.before ≡ kind_after r.answer before

-- before the first record: place 0, and no kind before
abbrev pub opening : Bor (List ℕ) → Records
opening s = record { bytes = s; at = 0; before = 0 }

-- the reader d, asked, answers a and is e then: what is found from its place, over the same bytes
pub record Asks (a : Next) (d e : Records) : Type 0 where
  pub found : Finds (record { answer = a; at = e.at; before = e.before }) d.bytes.now d.at d.before
  pub same : e.bytes ≡ d.bytes
