-- Two answers that the statement allows are equal.
use Rattle.std.proofs.Common.{ℕ, ◌≡◌, List, Option, Some, None, Result, Ok, Err, refl, ap}
use Rattle.refusals.specs.declared.Refusal.{Refusal}
use Rattle.refusals.specs.Refusals.{code_of}
use Rattle.refusals.proofs.Laws.{number-one}
use Rattle.sets.proofs.Unique.{one_answer}
use Rattle.trace.specs.Answer.{call_of}
use Rattle.trace.specs.Tracing.{call_at, trace_number}
use Rattle.trace.specs.declared.tracing.Call.{Call}
use Rattle.trace.specs.declared.tracing.Call.TheVariants.{Start, Cycle}

-- a refusal is told by its number
call-one : (r q : Result (Option Call) Refusal) → call_of r ≡ call_of q → code_of r ≡ code_of q → r ≡ q
call-one (Ok (Some (Start n))) (Ok (Some (Start m))) e h = let k : n ≡ m = cc in ap (λ (x : ℕ). Ok (Some (Start x))) k
call-one (Ok (Some (Start n))) (Ok (Some (Cycle m j))) e h = cc
call-one (Ok (Some (Start n))) (Ok None) e h = cc
call-one (Ok (Some (Start n))) (Err f) e h = cc
call-one (Ok (Some (Cycle n i))) (Ok (Some (Start m))) e h = cc
call-one (Ok (Some (Cycle n i))) (Ok (Some (Cycle m j))) e h =
    let k : n ≡ m = cc in
    let l : i ≡ j = cc in
    λ x. Ok (Some (Cycle (k x) (l x)))
call-one (Ok (Some (Cycle n i))) (Ok None) e h = cc
call-one (Ok (Some (Cycle n i))) (Err f) e h = cc
call-one (Ok None) (Ok (Some (Start m))) e h = cc
call-one (Ok None) (Ok (Some (Cycle m j))) e h = cc
call-one (Ok None) (Ok None) e h = refl
call-one (Ok None) (Err f) e h = cc
call-one (Err g) (Ok (Some (Start m))) e h = cc
call-one (Err g) (Ok (Some (Cycle m j))) e h = cc
call-one (Err g) (Ok None) e h = cc
call-one (Err g) (Err f) e h = ap Err (number-one g f h)

pub call-at-unique : (s : List ℕ) (at : ℕ) (r q : Result (Option Call) Refusal)
    → (call_of r ≡ call_at s at) × (code_of r ≡ trace_number s at) → (call_of q ≡ call_at s at) × (code_of q ≡ trace_number s at) → r ≡ q
call-at-unique s at r q e f = call-one r q (one_answer e.0 f.0) (one_answer e.1 f.1)
