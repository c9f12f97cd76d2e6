-- Two answers that one statement allows are equal, for each public function.
use mathlib.Core.Path.{◌≡◌}
use Rattle.std.proofs.Common.{Result}
use Rattle.sets.proofs.Unique.{one_answer}
use Rattle.refusals.specs.declared.Refusal.{Refusal}
use Rattle.refusals.specs.Refusals.{code_of}
use Rattle.refusals.proofs.Laws.{code-one}
use Rattle.chart.specs.Held.{closing_code, chart_code}
use Rattle.chart.specs.declared.chart.Chart.{Chart}

pub check-unique : (c : Chart) (r q : Result (Unit {0}) Refusal) → code_of r ≡ chart_code c → code_of q ≡ chart_code c → r ≡ q
check-unique c r q e h = code-one r q (one_answer e h)

pub check-whole-unique : (c : Chart) (r q : Result (Unit {0}) Refusal)
    → code_of r ≡ closing_code c.steps c.blocks c.initial c.blockaction c.qualifier → code_of q ≡ closing_code c.steps c.blocks c.initial c.blockaction c.qualifier → r ≡ q
check-whole-unique c r q e h = code-one r q (one_answer e h)
