-- The three tests, all passed.
use Rattle.fields.proofs.Laws.{passes}
use Rattle.fields.proofs.Transition.passes.Goals as goal

pub returns : goal.returns
returns c =
    let t = c.args.self in
    rw (c.is_apart-2.ensures, c.is_apart.ensures, c.fits.ensures)
    (passes c.args.steps c.args.actions t.sources t.targets t.on t.off t.wait)
