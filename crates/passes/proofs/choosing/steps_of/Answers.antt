-- By its callees' statements; those that stayed run on, and the other targets are entered.
use Rattle.passes.proofs.choosing.Laws.{entered-did-not-stay, stayed-run-on}
use Rattle.passes.proofs.choosing.steps_of.Goals as goal

pub returns : goal.returns
returns c =
    let a = c.args in
    rw (c.without.ensures, c.joined.ensures, c.without-stayed.ensures, entered-did-not-stay a.active a.choice, ← stayed-run-on a.active a.choice)
