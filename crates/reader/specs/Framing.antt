-- "A file is a run of records: a two-byte body length, a two-byte kind, the body".
use Rattle.std.specs.Prelude.{ℕ, ◌+◌, ◌-◌, List, [], ◌∷◌, ◌≡◌, cond, length, get_or, leb, eqb}
use Rattle.fields.specs.Fields.{kind_fits}
use Rattle.reader.specs.Numbers.{le, numbers_bytes, total}
use Rattle.reader.specs.Answer.{Next}
use Rattle.reader.specs.Answer.{Record, End, Refused}

abbrev pub length_at : List ℕ → ℕ → ℕ
length_at s at = le 2 s at

abbrev pub kind_at : List ℕ → ℕ → ℕ
kind_at s at = le 2 s (at + 2)

-- the table of kinds: the widths of a body's fields in bytes, in the file's order, for whoever reads them and whoever writes them:
-- the end; a step: initial; an action: output, value; a transition: sources, targets, on, off, wait; a block: step, action, qualifier,
-- duration; a case: step, signal, expected; document 02, request (viii), an edition: "kind 6, one byte"
abbrev pub widths : ℕ → List ℕ
widths k = get_or ([] ∷ (1 ∷ []) ∷ (1 ∷ 4 ∷ []) ∷ (8 ∷ 8 ∷ 8 ∷ 8 ∷ 4 ∷ []) ∷ (1 ∷ 1 ∷ 1 ∷ 4 ∷ []) ∷ (1 ∷ 1 ∷ 1 ∷ []) ∷ (1 ∷ []) ∷ []) k []

abbrev pub body_length : ℕ → ℕ
body_length k = total (widths k)

-- "a two-byte body length, a two-byte kind, the body"
abbrev pub record_bytes : ℕ → List ℕ → List ℕ
record_bytes k fields = numbers_bytes (2 ∷ 2 ∷ widths k) (body_length k ∷ k ∷ fields)

-- the number of a head with length n and kind k, `rest` bytes after it: the kind (2), the length (3), the cut body (1)
abbrev pub head_number : ℕ → ℕ → ℕ → ℕ → ℕ
head_number n k rest before =
    cond (kind_fits k before) (cond (eqb n (body_length k)) (cond (leb n rest) 0 1) 3) 2

-- "it tests 1, 2, 3 and the cut body only"; a place beyond the bytes has none left
unfoldable pub record_number : List ℕ → ℕ → ℕ → ℕ
record_number s at before =
    cond (leb 4 (length s - at)) (head_number (length_at s at) (kind_at s at) (length s - (at + 4)) before) 1

-- "answers the kind with its body's place and length, or the end, or the refusal with the record's place"
unfoldable pub record_values : List ℕ → ℕ → ℕ → List ℕ
record_values s at before =
    cond (eqb (record_number s at before) 0)
    (cond (eqb (kind_at s at) 0) [] (kind_at s at ∷ (at + 4) ∷ length_at s at ∷ []))
    (at ∷ [])

-- document 01's number and values for each case of the answer
abbrev pub number_of : Next → ℕ
number_of (Record k p n) = 0
number_of End = 0
number_of (Refused n p) = n

abbrev pub values_of : Next → List ℕ
values_of (Record k p n) = k ∷ p ∷ n ∷ []
values_of End = []
values_of (Refused n p) = p ∷ []

-- what the record step answers
pub record Answers (r : Next) (s : List ℕ) (at before : ℕ) : Type 0 where
  pub number : number_of r ≡ record_number s at before
  pub values : values_of r ≡ record_values s at before

-- where reading goes on after an answer, and the kind before it then: "After the end or a refusal it doesn't move"
abbrev pub place_after : Next → ℕ → ℕ
place_after (Record k p n) at = p + n
place_after End at = at
place_after (Refused n p) at = at

abbrev pub kind_after : Next → ℕ → ℕ
kind_after (Record k p n) before = k
kind_after End before = before
kind_after (Refused n p) before = before
