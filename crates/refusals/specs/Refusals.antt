-- "Numbers of refusal": document 01 has 1 to 16; document 02 adds 17 (request i), 18 (iii), 19 and 25 (iv), 20 (ix), 21 (x).
use Rattle.std.specs.Prelude.{ℕ, Result, Ok, Err}
use Rattle.refusals.specs.declared.Refusal.{Refusal}
use Rattle.refusals.specs.declared.Refusal.TheVariants.{Cut, BadKind, BadLength, TooMany, BadField, BadSteps, BadSignals, TimedTwice, NoInitial, Surplus, TooLate, OtherRun, WrongWeights, Unbalanced, FewOutputs, BadTrace, TooFewBytes, UnevenLists, NoText, OtherIndex, SumTooLarge, OutOfOrder}

abbrev pub number : Refusal → ℕ
number Cut = 1
number BadKind = 2
number BadLength = 3
number TooMany = 4
number BadField = 5
number BadSteps = 6
number BadSignals = 7
number TimedTwice = 8
number NoInitial = 9
number Surplus = 10
number TooLate = 11
number OtherRun = 12
number WrongWeights = 13
number Unbalanced = 14
number FewOutputs = 15
number BadTrace = 16
number TooFewBytes = 17
number UnevenLists = 18
number NoText = 19
number OtherIndex = 20
number SumTooLarge = 21
number OutOfOrder = 25

-- "Every accepted call answers 0 for the number"
abbrev pub code_of : {A : Type 0} → Result A Refusal → ℕ
code_of (Ok x) = 0
code_of (Err e) = number e
