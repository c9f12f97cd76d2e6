-- Refused, and nothing is said of the chart; or put in.
use Rattle.std.proofs.Common.{sym, ◌∙◌}
use Rattle.refusals.proofs.Laws.{number-some}
use Rattle.fields.proofs.Exits.{exit-code}
use Rattle.reader.proofs.reading.take.Goals as goal

pub returns-in_err-check : goal.returns-in_err-check
returns-in_err-check c =
    let e = exit-code _ _ c.from_residual.ensures.1 in
    record { number = e ∙ c.in_err-check.ensures; chart = λ z. absurd (number-some _ (sym e ∙ z)) }

pub returns : goal.returns
returns c = record { number = c.in_ok-check.ensures; chart = λ z. c.put.ensures }
