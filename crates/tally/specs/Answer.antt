-- The answers of the tally and of the weighing: a number, and what they count or weigh.
use Rattle.std.specs.Prelude.{ℕ, ◌≡◌, ◌+◌, Option, Some, None, Result, Ok, Err}
use Rattle.refusals.specs.declared.Refusal.{Refusal}
use Rattle.refusals.specs.Refusals.{number}
use Rattle.tally.specs.declared.answer.Tally.{Tally}
use Rattle.tally.specs.declared.answer.Unweighed.{Unweighed}
use Rattle.tally.specs.declared.answer.Unweighed.TheVariants.{Refused, Unbalanced}

pub record Tallied : Type 0 where
  pub code : ℕ
  pub passed : ℕ
  pub failed : ℕ
  pub notrun : ℕ

-- "a refused tally three zeros"
abbrev pub tallied_of : Result Tally Refusal → Tallied
tallied_of (Ok t) = record { code = 0; passed = t.passed; failed = t.failed; notrun = t.notrun }
tallied_of (Err e) = record { code = number e; passed = 0; failed = 0; notrun = 0 }

pub record Weighed : Type 0 where
  pub code : ℕ
  pub transition : ℕ
  pub total : ℕ

-- "a refused weighing total 0 .. The transition it names is 0 unless the answer is 14."
abbrev pub unweighed_of : Unweighed → Weighed
unweighed_of (Refused e) = record { code = number e; transition = 0; total = 0 }
unweighed_of (Unbalanced t) = record { code = 14; transition = t; total = 0 }

abbrev pub weighed_of : Result ℕ Unweighed → Weighed
weighed_of (Ok total) = record { code = 0; transition = 0; total = total }
weighed_of (Err e) = unweighed_of e

-- a transition is named where 14 is answered
abbrev pub names_14 : Result ℕ Unweighed → Type 0
names_14 (Ok total) = Unit {0}
names_14 (Err (Refused e)) = number e ≡ 14 → ⊥
names_14 (Err (Unbalanced t)) = Unit {0}

-- one more than a number, 0 if there is none
abbrev pub one_more : Option ℕ → ℕ
one_more None = 0
one_more (Some t) = t + 1
