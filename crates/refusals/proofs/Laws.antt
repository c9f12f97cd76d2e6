-- No refusal has the number of an accepted call, and no two have one number.
use Rattle.std.proofs.Common.{ℕ, ◌≡◌, Result, Ok, Err, cond, refl, sym, ap, ◌∙◌, nat_eq}
use Rattle.refusals.specs.declared.Refusal.{Refusal}
use Rattle.refusals.specs.declared.Refusal.TheVariants.{Cut, BadKind, BadLength, TooMany, BadField, BadSteps, BadSignals, TimedTwice, NoInitial, Surplus, TooLate, OtherRun, WrongWeights, Unbalanced, FewOutputs, BadTrace, TooFewBytes, UnevenLists, NoText, OtherIndex, SumTooLarge, OutOfOrder}
use Rattle.refusals.specs.Refusals.{number, code_of}

pub number-some : (r : Refusal) → number r ≡ 0 → ⊥
number-some Cut h = cc
number-some BadKind h = cc
number-some BadLength h = cc
number-some TooMany h = cc
number-some BadField h = cc
number-some BadSteps h = cc
number-some BadSignals h = cc
number-some TimedTwice h = cc
number-some NoInitial h = cc
number-some Surplus h = cc
number-some TooLate h = cc
number-some OtherRun h = cc
number-some WrongWeights h = cc
number-some Unbalanced h = cc
number-some FewOutputs h = cc
number-some BadTrace h = cc
number-some TooFewBytes h = cc
number-some UnevenLists h = cc
number-some NoText h = cc
number-some OtherIndex h = cc
number-some SumTooLarge h = cc
number-some OutOfOrder h = cc

-- the refusal of a number
abbrev of_number : ℕ → Refusal
of_number n =
    cond (nat_eq n 1) Cut (
    cond (nat_eq n 2) BadKind (
    cond (nat_eq n 3) BadLength (
    cond (nat_eq n 4) TooMany (
    cond (nat_eq n 5) BadField (
    cond (nat_eq n 6) BadSteps (
    cond (nat_eq n 7) BadSignals (
    cond (nat_eq n 8) TimedTwice (
    cond (nat_eq n 9) NoInitial (
    cond (nat_eq n 10) Surplus (
    cond (nat_eq n 11) TooLate (
    cond (nat_eq n 12) OtherRun (
    cond (nat_eq n 13) WrongWeights (
    cond (nat_eq n 14) Unbalanced (
    cond (nat_eq n 15) FewOutputs (
    cond (nat_eq n 16) BadTrace (
    cond (nat_eq n 17) TooFewBytes (
    cond (nat_eq n 18) UnevenLists (
    cond (nat_eq n 19) NoText (
    cond (nat_eq n 20) OtherIndex (
    cond (nat_eq n 21) SumTooLarge (
    OutOfOrder)))))))))))))))))))))

back : (r : Refusal) → of_number (number r) ≡ r
back Cut = refl
back BadKind = refl
back BadLength = refl
back TooMany = refl
back BadField = refl
back BadSteps = refl
back BadSignals = refl
back TimedTwice = refl
back NoInitial = refl
back Surplus = refl
back TooLate = refl
back OtherRun = refl
back WrongWeights = refl
back Unbalanced = refl
back FewOutputs = refl
back BadTrace = refl
back TooFewBytes = refl
back UnevenLists = refl
back NoText = refl
back OtherIndex = refl
back SumTooLarge = refl
back OutOfOrder = refl

pub number-one : (r q : Refusal) → number r ≡ number q → r ≡ q
number-one r q h = sym (back r) ∙ ap of_number h ∙ back q

-- so a test's answer is one
pub code-one : (r q : Result Unit Refusal) → code_of r ≡ code_of q → r ≡ q
code-one (Ok x) (Ok y) h = refl
code-one (Ok x) (Err e) h = absurd (number-some e (sym h))
code-one (Err e) (Ok y) h = absurd (number-some e h)
code-one (Err e) (Err f) h = ap Err (number-one e f h)
