use Rattle.std.proofs.Common.{◌≡◌, Result, Ok, Err, ap}
use Rattle.std.specs.Result.{IsErrAnd}
use Rattle.reader.specs.declared.framing.Fault.{Fault}
use Rattle.text.proofs.reading.read_text.Goals as goal

-- the refusal that a `?` hands on
handed_on : {A : Type 0} (r : Result A Fault) (e : Fault) → IsErrAnd r (λ y. y ≡ e) → r ≡ Err e
handed_on (Ok x) e h = elim h [ ]
handed_on (Err y) e h = ap Err h

pub returns-in_err-read : goal.returns-in_err-read
returns-in_err-read c = rw (handed_on _ _ c.from_residual.ensures.1) c.in_err-read.ensures.answer

pub returns : goal.returns
returns c = rw c.finish.ensures c.in_ok-read.ensures.answer
