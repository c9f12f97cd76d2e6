-- Two answers that one statement allows are equal, for each public function.
use Rattle.std.proofs.Common.{ℕ, ◌≡◌, Bool, List, Result}
use Rattle.sets.proofs.Unique.{one_answer}
use Rattle.refusals.specs.declared.Refusal.{Refusal}
use Rattle.refusals.specs.Refusals.{code_of}
use Rattle.refusals.proofs.Laws.{code-one}
use Rattle.chart.specs.declared.chart.Chart.{Chart}
use Rattle.run.specs.Run.{no_run, longer_counter, longer_timer}
use Rattle.run.specs.Belongs.{belongs, own_code}
use Rattle.run.specs.Tables.{fit_in, grown_in, cleared_in}
use Rattle.run.specs.declared.run.StepCounter.{StepCounter}
use Rattle.run.specs.declared.run.ActionTimer.{ActionTimer}
use Rattle.run.specs.declared.run.Run.{Run}

pub zero-unique : (r q : Run) → r ≡ no_run → q ≡ no_run → r ≡ q
zero-unique r q = one_answer

pub belongs-unique : (c : Chart) (run : Run) (r q : Bool) → r ≡ belongs c run → q ≡ belongs c run → r ≡ q
belongs-unique c run r q = one_answer

pub check-unique : (c : Chart) (run : Run) (r q : Result Unit Refusal) → code_of r ≡ own_code c run → code_of q ≡ own_code c run → r ≡ q
check-unique c run r q e f = code-one r q (one_answer e f)

pub counter-longer-unique : (e : ℕ) (c r q : StepCounter) → r ≡ longer_counter e c → q ≡ longer_counter e c → r ≡ q
counter-longer-unique e c r q = one_answer

pub timer-longer-unique : (e : ℕ) (t r q : ActionTimer) → r ≡ longer_timer e t → q ≡ longer_timer e t → r ≡ q
timer-longer-unique e t r q = one_answer

-- of any type with its milliseconds
module _ {A : Type 0} (ms : A → ℕ) (of : ℕ → A) (items : List A) (set n : ℕ) where
  pub fits-unique : (r q : Bool) → r ≡ fit_in ms of items set n → q ≡ fit_in ms of items set n → r ≡ q
  fits-unique r q = one_answer

  pub grow-unique : (elapsed : ℕ) (r q : List A) → r ≡ grown_in ms of items set elapsed n → q ≡ grown_in ms of items set elapsed n → r ≡ q
  grow-unique elapsed r q = one_answer

  pub clear-unique : (r q : List A) → r ≡ cleared_in of items set n → q ≡ cleared_in of items set n → r ≡ q
  clear-unique r q = one_answer
