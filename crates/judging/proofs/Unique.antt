-- Two answers that the statement allows are equal.
use Rattle.std.proofs.Common.{◌≡◌, Result}
use Rattle.sets.proofs.Unique.{one_answer}
use Rattle.refusals.specs.declared.Refusal.{Refusal}
use Rattle.refusals.specs.Refusals.{code_of}
use Rattle.refusals.proofs.Laws.{code-one}
use Rattle.chart.specs.declared.chart.Chart.{Chart}
use Rattle.judging.specs.Judging.{body_code}
use Rattle.judging.specs.declared.Body.{Body}

pub check-unique : (c : Chart) (body : Body) (r q : Result (Unit {0}) Refusal)
    → code_of r ≡ body_code c.steps c.actions c.transitions c.blocks c.cases c.edition body
    → code_of q ≡ body_code c.steps c.actions c.transitions c.blocks c.cases c.edition body → r ≡ q
check-unique c body r q e f = code-one r q (one_answer e f)
