-- Two answers that one statement allows are equal, for each public function.
use Rattle.std.proofs.Common.{ℕ, List, length, take, Option, Some, None, Result, Ok, Err, ◌≡◌, refl, ap₂}
use Rattle.sets.specs.Bytes.{Put}
use Rattle.sets.proofs.Unique.{one_answer}
use Rattle.weights.specs.Answer.{said_as, place}
use Rattle.weights.specs.Words.{says_of}
use Rattle.weights.specs.Listing.{fault_in, weights_in}
use Rattle.weights.specs.declared.listing.Listed.{Listed}
use Rattle.weights.specs.declared.words.Unreadable.{Unreadable}

-- no two answers say the same
said-one : (r q : Result (Option ℕ) Unreadable) → said_as r ≡ said_as q → r ≡ q
said-one (Ok None) (Ok None) e = refl
said-one (Ok (Some v)) (Ok (Some w)) e = cc
said-one (Err x) (Err y) e = refl
said-one (Ok None) (Ok (Some w)) e = cc
said-one (Ok None) (Err y) e = cc
said-one (Ok (Some v)) (Ok None) e = cc
said-one (Ok (Some v)) (Err y) e = cc
said-one (Err x) (Ok None) e = cc
said-one (Err x) (Ok (Some w)) e = cc

pub says-unique : (line : List ℕ) (r q : Result (Option ℕ) Unreadable) → said_as r ≡ says_of line → said_as q ≡ says_of line → r ≡ q
says-unique line r q e h = said-one r q (one_answer e h)

pub list-unique : (text weights f g : List ℕ) (r q : Listed)
    → (r.fault ≡ place (fault_in text)) × Put weights 0 (take (length weights) (weights_in text)) f r.count
    → (q.fault ≡ place (fault_in text)) × Put weights 0 (take (length weights) (weights_in text)) g q.count → (r ≡ q) × (f ≡ g)
list-unique text weights f g r q e h = (
  ap₂ {C = Listed} (λ (x : Option ℕ) (y : ℕ). record { fault = x; count = y }) (one_answer e.0 h.0) (one_answer e.1.1 h.1.1),
  one_answer e.1.0 h.1.0,
)
