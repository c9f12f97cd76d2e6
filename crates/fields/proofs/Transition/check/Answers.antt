-- The first test that refuses.
use mathlib.Core.Path.{◌∙◌}
use Rattle.fields.specs.Fields.{transition_code}
use Rattle.fields.proofs.Exits.{exit-first, passed-first}
use Rattle.fields.proofs.Transition.check.Goals as goal

pub returns-in_err-unless : goal.returns-in_err-unless
unfolding transition_code
returns-in_err-unless c = exit-first _ _ _ c.from_residual.ensures.1 (rw c.fits.ensures at c.in_err-unless.ensures)

pub returns-in_err-unless-2 : goal.returns-in_err-unless-2
unfolding transition_code
returns-in_err-unless-2 c =
    exit-first _ _ _ c.from_residual-in_err-unless-2.ensures.1 (rw c.is_apart-apart.ensures at c.in_err-unless-2.ensures)
    ∙ passed-first _ (rw c.fits.ensures at c.in_ok-unless.ensures)

pub returns : goal.returns
unfolding transition_code
returns c =
    rw c.is_apart.ensures at c.unless-3.ensures
    ∙ passed-first _ (rw c.is_apart-apart.ensures at c.in_ok-unless-2.ensures)
    ∙ passed-first _ (rw c.fits.ensures at c.in_ok-unless.ensures)
