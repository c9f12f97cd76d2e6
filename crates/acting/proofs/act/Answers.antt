-- By its callees' statements, the last call first.
use Rattle.acting.specs.Acting.{acted}
use Rattle.acting.proofs.act.Goals as goal

pub returns : goal.returns
unfolding acted
returns c =
    rw (
      c.without.ensures,
      c.joined-want.ensures,
      c.joined-3.ensures,
      c.common.ensures,
      c.without-held.ensures,
      c.joined-2.ensures,
      c.without-kept.ensures,
      c.joined.ensures,
    )
