-- Two answers that the statement allows are equal.
use Prim.Native.Nat.{ℕ}
use mathlib.Core.List.{List}
use mathlib.Core.Path.{◌≡◌}
use Rattle.sets.proofs.Unique.{one_answer}
use Rattle.choice.specs.Choice.{none_taken, choosing, reasons_of, held_reasons}
use Rattle.choice.specs.Reason.{number}
use Rattle.choice.specs.declared.Choice.{Choice}
use Rattle.choice.specs.declared.reasons.Reason.{Reason}

pub none-unique : (r q : Choice) → r ≡ none_taken → q ≡ none_taken → r ≡ q
none-unique r q = one_answer

pub choose-one-unique : (edition : ℕ) (choice : Choice) (t f g on off w : ℕ) (counts : List ℕ) (active signals : ℕ) (r q : Choice)
    → r ≡ choosing edition choice t f g on off w counts active signals → q ≡ choosing edition choice t f g on off w counts active signals → r ≡ q
choose-one-unique edition choice t f g on off w counts active signals r q = one_answer

pub number-unique : (reason : Reason) (r q : ℕ) → r ≡ number reason → q ≡ number reason → r ≡ q
number-unique reason r q = one_answer

pub explain-unique : (edition n : ℕ) (sources targets on off wait counts : List ℕ) (active signals : ℕ) (f g : List ℕ)
    → f ≡ reasons_of 0 edition n sources targets on off wait counts active signals → g ≡ reasons_of 0 edition n sources targets on off wait counts active signals → f ≡ g
explain-unique edition n sources targets on off wait counts active signals f g = one_answer

pub hold-all-unique : (n : ℕ) (f g : List ℕ) → f ≡ held_reasons n → g ≡ held_reasons n → f ≡ g
hold-all-unique n f g = one_answer
