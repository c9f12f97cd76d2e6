-- Each pair of sets is tested as one.
use Rattle.fields.proofs.Laws.{transition-pairs}
use Rattle.fields.proofs.Transition.fits.Goals as goal

pub returns : goal.returns
returns c =
    let t = c.args.self in
    rw (
      c.is_apart-2.ensures,
      c.no_signals.ensures,
      c.joined-2.ensures,
      c.is_apart.ensures,
      c.beyond.ensures,
      c.joined.ensures,
    )
    (transition-pairs c.args.steps c.args.actions t.sources t.targets t.on t.off t.wait)
